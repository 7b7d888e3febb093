use Rattle.std.proofs.Common.{sym, ◌∙◌}
use Rattle.ms_held.proofs.Orders.{found_is, missing_is, not_within}
use Rattle.ms_held.proofs.signatures.shortest_by_halves.Goals as goal

-- what stands at the first place of the key or later
pub returns-in-Some : goal.returns-in-Some
returns-in-Some c =
    let stands = c.in-Some.ensures.lookup.3 in
    c.sig_under.ensures
    ∙ found_is c.args.table.now c.args.order.now c.requires c.args.key.now c.count_before-first.result c.count_before-first.ensures.split c.in-Some.place.now stands.0 (λ d. sym (stands.1 d))

-- nothing stands there
pub returns-in-None : goal.returns-in-None
returns-in-None c =
    missing_is c.args.table.now c.args.order.now c.requires c.args.key.now c.count_before-first.result c.count_before-first.ensures.split (not_within _ _ c.in-None.ensures.lookup.0)
