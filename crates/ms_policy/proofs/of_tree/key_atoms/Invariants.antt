-- The keys so far, and those that are left.
use Rattle.std.proofs.Common.{◌≡◌, ◌++◌, drop, map}
use Rattle.def_policy.specs.Policy as policy
use Rattle.ms_policy.specs.Shape.{policy_shape}
use Rattle.ms_policy.proofs.of_tree.key_atoms.Given as goal

abbrev pub invariant-loop-key : goal.invariant-loop-key
invariant-loop-key l = map policy_shape l.parts.items ++ map policy.key (drop l.key-index l.keys) ≡ map policy.key l.keys
