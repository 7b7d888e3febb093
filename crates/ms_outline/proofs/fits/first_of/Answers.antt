use Rattle.ms_tree.specs.Shape.{shape}
use Rattle.ms_outline.proofs.Tried.{one_fits, next_fits}
use Rattle.ms_outline.proofs.fits.first_of.Goals as goal

pub returns-then-passes_with : goal.returns-then-passes_with
returns-then-passes_with c =
    one_fits (shape c.args.tree.now) c.args.types.now c.args.place c.args.letters.now c.loop-letter.letter-index _ c.correctness_of_letter-child.result c.passes_with.result
    c.loop-letter-test.true c.correctness_of_letter-child.ensures c.passes_with.ensures c.if-passes_with.true c.loop-letter.invariant

pub loop-letter-preserved : goal.loop-letter-preserved
loop-letter-preserved c =
    next_fits (shape c.args.tree.now) c.args.types.now c.args.place c.args.letters.now c.loop-letter.letter-index _ c.correctness_of_letter-child.result c.passes_with.result
    c.loop-letter-test.true c.correctness_of_letter-child.ensures c.passes_with.ensures c.if-passes_with.false c.loop-letter.invariant
