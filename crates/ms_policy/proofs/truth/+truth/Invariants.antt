-- What is true of the parts that are left.
use Rattle.std.proofs.Common.{◌≡◌, ◌+◌, ◌≤◌, drop, map}
use Rattle.std.specs.List.{list_all, list_any}
use Rattle.def_policy.specs.Policy.{policies_of}
use Rattle.def_policy.specs.Size.{HaveLocks}
use Rattle.def_policy.specs.Truth.{facts_of, how_many, truths}
use Rattle.ms_policy.specs.Shape.{policy_shape}
use Rattle.ms_policy.proofs.truth.+truth.Given as goal

abbrev pub invariant-all_met-loop-part : goal.invariant-all_met-loop-part
invariant-all_met-loop-part l = record {
  locks : HaveLocks (policies_of (map policy_shape (drop l.part-index l.parts)));
  left :
      list_all (λ b. b) (truths (facts_of l.assets) (policies_of (map policy_shape (drop l.part-index l.parts)))) ≡
      list_all (λ b. b) (truths (facts_of l.assets) (policies_of (map policy_shape l.parts)));
}

abbrev pub invariant-any_met-loop-part : goal.invariant-any_met-loop-part
invariant-any_met-loop-part l = record {
  locks : HaveLocks (policies_of (map policy_shape (drop l.part-index l.parts)));
  left :
      list_any (λ b. b) (truths (facts_of l.assets) (policies_of (map policy_shape (drop l.part-index l.parts)))) ≡
      list_any (λ b. b) (truths (facts_of l.assets) (policies_of (map policy_shape l.parts)));
}

abbrev pub invariant-count_met-loop-part : goal.invariant-count_met-loop-part
invariant-count_met-loop-part l = record {
  locks : HaveLocks (policies_of (map policy_shape (drop l.part-index l.parts)));
  few : l.count ≤ l.part-index;
  left :
      l.count + how_many (truths (facts_of l.assets) (policies_of (map policy_shape (drop l.part-index l.parts)))) ≡
      how_many (truths (facts_of l.assets) (policies_of (map policy_shape l.parts)));
}
