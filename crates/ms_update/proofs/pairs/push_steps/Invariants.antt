use Rattle.std.proofs.Common.{◌≡◌, ◌++◌, drop}
use Rattle.std.specs.Prelude.{flat_map}
use Rattle.std.specs.Int.{w32, to_le_bytes}
use Rattle.ms_update.proofs.pairs.push_steps.Given as goal

abbrev pub invariant-steps : goal.invariant-steps
invariant-steps l = l.value.items ++ flat_map (to_le_bytes w32) (drop l.step-index l.steps) ≡ l.initial.value.items ++ flat_map (to_le_bytes w32) l.steps
