use Rattle.std.proofs.Common.{◌≡◌, ℕ, List, ◌++◌, drop}
use Rattle.std.specs.List.{flat_map}
use Rattle.ms_calls.proofs.planning.keys_of.Given as goal

abbrev pub invariant-loop-key : goal.invariant-loop-key
invariant-loop-key l = l.bytes.items ++ flat_map (λ (key : List ℕ). key) (drop l.key-index l.keys) ≡ flat_map (λ (key : List ℕ). key) l.keys
