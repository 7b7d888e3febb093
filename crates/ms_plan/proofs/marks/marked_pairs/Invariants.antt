use Rattle.std.proofs.Common.{◌≡◌, ◌++◌, drop}
use Rattle.ms_plan.specs.Scaffolding.Marks.{marked}
use Rattle.ms_plan.proofs.marks.marked_pairs.Given as goal

-- what is left to be added makes the whole
abbrev pub invariant-loop-place : goal.invariant-loop-place
invariant-loop-place l =
    l.pairs ++ marked l.marks l.place (drop l.place l.table) ≡ marked l.marks 0 l.table
