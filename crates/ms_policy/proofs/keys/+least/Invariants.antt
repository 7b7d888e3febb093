-- The numbers so far, and those of the parts that are left, which are few.
use Rattle.std.proofs.Common.{◌≡◌, ◌≤◌, ◌++◌, drop, map}
use Rattle.def_policy.specs.Policy.{policies_of}
use Rattle.def_policy.specs.Size.{size_of, MOST_POLICIES}
use Rattle.ms_policy.specs.Scaffolding.Cost.{costs}
use Rattle.ms_policy.specs.Shape.{policy_shape}
use Rattle.ms_policy.proofs.keys.+least.Given as goal

abbrev pub invariant-least_of-loop-part : goal.invariant-least_of-loop-part
invariant-least_of-loop-part l = record {
  few : size_of (policies_of (map policy_shape (drop l.part-index l.parts))) ≤ MOST_POLICIES;
  left :
      l.found.items ++ costs (policies_of (map policy_shape (drop l.part-index l.parts))) ≡
      costs (policies_of (map policy_shape l.parts));
}
