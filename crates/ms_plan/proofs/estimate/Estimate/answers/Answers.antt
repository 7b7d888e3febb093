use Rattle.std.proofs.Common.{◌≡◌, Some, subst, sym}
use Rattle.def_plan.specs.Lengths.{AreLengths, length_of}
use Rattle.ms_plan_file.proofs.Tables.{answered}
use Rattle.ms_plan.proofs.estimate.Estimate.answers.Goals as goal

pub loop-entry-preserved : goal.loop-entry-preserved
loop-entry-preserved g c =
    answered c.table-table.result.now c.loop-entry.entry-index c.entry-item.result c.loop-entry.answers.items c.push_answer.new.answers.items
    (subst AreLengths (sym c.table-table.ensures) c.requires.0) c.loop-entry-test.true c.entry-item.is
    (λ n e. c.in_ok-push_answer.ensures n (subst (λ t. length_of t c.entry-item.result.0 ≡ Some n) c.table-table.ensures e))
    c.loop-entry.invariant
