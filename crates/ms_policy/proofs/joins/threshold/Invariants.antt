-- The parts so far that are neither Always nor Never.
use Rattle.std.proofs.Common.{◌≡◌, ◌||◌, not, map, filter}
use Rattle.def_policy.specs.Simple.{is_always, is_never}
use Rattle.ms_policy.specs.Shape.{policy_shape}
use Rattle.ms_policy.proofs.joins.threshold.Given as goal

abbrev pub invariant-loop-part : goal.invariant-loop-part
invariant-loop-part l = map policy_shape l.kept.items ≡ filter (λ part. not (is_always part || is_never part)) (map policy_shape l.yielded)
