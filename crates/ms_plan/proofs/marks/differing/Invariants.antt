use Rattle.std.proofs.Common.{◌≡◌, ◌++◌, drop}
use Rattle.ms_plan.specs.Scaffolding.Marks.{differing}
use Rattle.ms_plan.proofs.marks.differing.Given as goal

abbrev pub invariant-loop-place : goal.invariant-loop-place
invariant-loop-place l = l.items ++ differing (drop l.place l.stack) (drop l.place l.other) ≡ differing l.stack l.other
