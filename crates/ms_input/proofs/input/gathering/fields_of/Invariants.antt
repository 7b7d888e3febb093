use Rattle.std.proofs.Common.{◌≡◌, ◌++◌}
use Rattle.ms_input.specs.Held.{held_in}
use Rattle.ms_input.proofs.input.gathering.fields_of.Given as goal

abbrev pub invariant-loop-pair : goal.invariant-loop-pair
invariant-loop-pair l = (l.fields ≡ held_in l.yielded) × (l.fn.map ≡ l.yielded ++ l.pair-iterator)
