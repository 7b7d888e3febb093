-- The parts that are left decide where all parts do.
use Rattle.std.proofs.Common.{◌≡◌, drop, map}
use Rattle.std.specs.List.{list_any}
use Rattle.def_policy.specs.Simple.{is_decisive}
use Rattle.ms_policy.specs.Shape.{policy_shape}
use Rattle.ms_policy.proofs.joins.has_decisive.Given as goal

abbrev pub invariant-loop-part : goal.invariant-loop-part
invariant-loop-part l =
    list_any (is_decisive l.how) (map policy_shape (drop l.part-index l.parts)) ≡ list_any (is_decisive l.how) (map policy_shape l.parts)
