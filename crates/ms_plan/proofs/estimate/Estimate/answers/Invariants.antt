use Rattle.std.proofs.Common.{◌≡◌, ◌++◌, drop}
use Rattle.ms_plan.proofs.estimate.Estimate.answers.Given as goal

abbrev pub invariant-loop-entry : goal.invariant-loop-entry
invariant-loop-entry g l = l.answers.items ++ drop l.entry-index l.table ≡ l.table
