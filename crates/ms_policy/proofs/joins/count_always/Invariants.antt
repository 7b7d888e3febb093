-- Those so far and those that are left are all.
use Rattle.std.proofs.Common.{◌≡◌, ◌+◌, ◌≤◌, drop, map, filter, length}
use Rattle.def_policy.specs.Simple.{is_always}
use Rattle.ms_policy.specs.Shape.{policy_shape}
use Rattle.ms_policy.proofs.joins.count_always.Given as goal

abbrev pub invariant-loop-part : goal.invariant-loop-part
invariant-loop-part l = record {
  few : l.count ≤ l.part-index;
  left :
      l.count + length (filter is_always (map policy_shape (drop l.part-index l.parts))) ≡
      length (filter is_always (map policy_shape l.parts));
}
