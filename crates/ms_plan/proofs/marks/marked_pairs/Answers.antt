use Rattle.std.proofs.Common.{replicate, ap}
use Rattle.ms_plan.proofs.Marked.{added}
use Rattle.ms_plan.proofs.marks.marked_pairs.Goals as goal

pub loop-place-preserved : goal.loop-place-preserved
loop-place-preserved c =
    added c.args.marks c.args.table.now c.loop-place.place c.index-table-place.result c.loop-place.pairs c.push_marked.new.pairs _ _ c.loop-place-test.true c.index-table-place.is
    (ap (replicate c.index-table-place.result.1) c.of.ensures)
    c.in_ok-push_marked.ensures
    c.loop-place.invariant
