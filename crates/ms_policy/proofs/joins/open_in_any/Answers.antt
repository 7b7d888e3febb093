use Rattle.std.proofs.Common.{[], ◌∷◌, ◌++◌, map, sym, ◌∙◌, ap}
use Rattle.std.proofs.lemmas.List.{map-append}
use Rattle.ms_policy.specs.Shape.{policy_shape}
use Rattle.ms_policy.proofs.Seen.{opened-any, stays_in_any}
use Rattle.ms_policy.proofs.joins.open_in_any.Goals as goal

pub returns-in-Any : goal.returns-in-Any
returns-in-Any c = rw (opened-any c.args.part c.in-Any.parts c.in-Any.is) c.add.ensures

pub returns-in_ok-push-in_default : goal.returns-in_ok-push-in_default
returns-in_ok-push-in_default c =
    let before = c.args.opened.now.items in
    let stays = stays_in_any c.args.part c.in_default.not-Never c.in_default.not-Any in
    ap (map policy_shape) c.in_ok-push-in_default.ensures.items ∙ map-append policy_shape before (c.args.part ∷ []) ∙
    ap (λ more. map policy_shape before ++ more) (sym stays)
