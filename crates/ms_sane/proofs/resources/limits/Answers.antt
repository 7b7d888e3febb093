use Rattle.std.proofs.Common.{sym, subst}
use Rattle.def_limits.specs.Limits.{AreLimits}
use Rattle.def_limits.proofs.Greatest.{limits_are_computed}
use Rattle.ms_tree.specs.Shape.{shape}
use Rattle.ms_sane.proofs.resources.limits.Goals as goal

pub returns-clause-limits : goal.returns-clause-limits
returns-clause-limits c =
    subst (AreLimits (shape c.args.tree.now)) (sym c.limits_from.ensures.limits) (limits_are_computed (shape c.args.tree.now))
