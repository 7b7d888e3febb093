-- What stands in the place of the parts so far.
use Rattle.std.proofs.Common.{◌≡◌, map, flat_map}
use Rattle.def_policy.specs.Simple.{opened}
use Rattle.ms_policy.specs.Shape.{policy_shape}
use Rattle.ms_policy.proofs.joins.joined.Given as goal

abbrev pub invariant-loop-part : goal.invariant-loop-part
invariant-loop-part l = map policy_shape l.opened.items ≡ flat_map (opened l.how) (map policy_shape l.yielded)
