use Rattle.std.proofs.Common.{arith, refl}
use Rattle.ms_height.proofs.Marks.{counted_more, equal_few}
use Rattle.ms_height.proofs.sums.note.Goals as goal

pub overflow_add-counts : goal.overflow_add-counts
overflow_add-counts c =
    let t = c.requires.told in
    omega (arith, t.1.each c.args.number c.requires.inside, equal_few c.args.number t.0, t.2)

pub returns : goal.returns
returns c = record { counted = λ xs counted few. counted_more c.args.counts.now c.args.number xs _ c.requires.inside c.requires.small few refl counted }
