use Rattle.std.proofs.Common.{◌≡◌, ◌+◌, ◌*◌, ◌∙◌, ap, arith}
use Rattle.ms_height.specs.Scaffolding.Chosen.{top}
use Rattle.ms_height.proofs.Tops.{top_is}
use Rattle.ms_height.proofs.Marks.{marks_most, excess_most}
use Rattle.ms_height.proofs.sums.Top.sum.Goals as goal

pub overflow_mul-result : goal.overflow_mul-result
overflow_mul-result c =
    let t = c.requires.told in
    omega (arith, marks_most c.args.self.now.count c.args.self.now.mark t.2 t.3.counted.small t.3.rising.many, t.3.same, t.4)

pub overflow_add-result : goal.overflow_add-result
overflow_add-result c =
    let t = c.requires.told in
    omega (
      arith,
      marks_most c.args.self.now.count c.args.self.now.mark t.2 t.3.counted.small t.3.rising.many,
      t.3.same,
      t.4,
      t.3.rising.excess,
      excess_most c.args.self.now.mark t.2 t.3.counted.small,
      t.3.counted.few,
    )

pub returns-clause-sum : goal.returns-clause-sum
returns-clause-sum c = λ slots n xs is.
    let count = c.args.self.now.count in
    let mark = c.args.self.now.mark in
    let sum : count * mark + c.args.self.now.excess ≡ top count xs = omega (arith, is.rising.excess, top_is count mark xs (omega (arith, is.few, is.rising.above)) is.rising.many) in
    sum ∙ ap (λ m. top m xs) is.same

pub returns-clause-low : goal.returns-clause-low
returns-clause-low c =
    let t = c.requires.told in
    omega (
      arith,
      marks_most c.args.self.now.count c.args.self.now.mark t.2 t.3.counted.small t.3.rising.many,
      t.3.same,
      t.4,
      t.3.rising.excess,
      excess_most c.args.self.now.mark t.2 t.3.counted.small,
      t.3.counted.few,
    )
