use Rattle.std.proofs.Common.{sym, subst}
use Rattle.def_policy.specs.Keys.{AreLeastKeys}
use Rattle.ms_policy.specs.Shape.{policy_shape}
use Rattle.ms_policy.proofs.Bounds.{on_ok}
use Rattle.ms_policy.proofs.Enough.{cost_is_least}
use Rattle.ms_policy.proofs.keys.least_keys.Goals as goal

pub returns : goal.returns
returns c =
    let policy = policy_shape c.args.policy.now in
    on_ok _ _ c.least.result (λ n e. subst (AreLeastKeys policy) (sym e) (cost_is_least policy c.requires.distinct)) c.least.ensures
