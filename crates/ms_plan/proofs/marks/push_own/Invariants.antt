use Rattle.std.proofs.Common.{◌≡◌, ◌++◌, drop, filter}
use Rattle.ms_plan.specs.Scaffolding.Marks.{signs}
use Rattle.ms_plan.proofs.marks.push_own.Given as goal

abbrev pub invariant-loop-key : goal.invariant-loop-key
invariant-loop-key l =
    l.keys.items ++ filter (signs l.assets l.signatures) (drop l.key-index l.own) ≡
    l.initial.keys.items ++ filter (signs l.assets l.signatures) l.own
