use Rattle.std.proofs.Common.{[], ◌∷◌, ◌++◌, map, sym, ◌∙◌, ap}
use Rattle.std.proofs.lemmas.List.{map-append}
use Rattle.ms_policy.specs.Shape.{policy_shape}
use Rattle.ms_policy.proofs.Seen.{opened-all, stays_in_all}
use Rattle.ms_policy.proofs.joins.open_in_all.Goals as goal

pub returns-in-All : goal.returns-in-All
returns-in-All c = rw (opened-all c.args.part c.in-All.parts c.in-All.is) c.add.ensures

pub returns-in_ok-push-in_default : goal.returns-in_ok-push-in_default
returns-in_ok-push-in_default c =
    let before = c.args.opened.now.items in
    let stays = stays_in_all c.args.part c.in_default.not-Always c.in_default.not-All in
    ap (map policy_shape) c.in_ok-push-in_default.ensures.items ∙ map-append policy_shape before (c.args.part ∷ []) ∙
    ap (λ more. map policy_shape before ++ more) (sym stays)
