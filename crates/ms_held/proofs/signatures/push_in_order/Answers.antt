use Rattle.std.proofs.Common.{◌++◌, [], ◌∷◌, sym, ◌∙◌, ap, length}
use Rattle.std.specs.List.{insert}
use Rattle.ms_held.specs.Scaffolding.Order.{IsOrder}
use Rattle.ms_held.proofs.Orders.{put_in, is_order, inserted}
use Rattle.ms_held.proofs.signatures.push_in_order.Goals as goal

pub returns-clause-order : goal.returns-clause-order
returns-clause-order c =
    let table = c.as_slice-table.result.now in
    let order = c.deref.result.now in
    let key = c.args.key.now in
    let sig = c.args.sig.now in
    let at = c.count_before-at.result in
    let is : IsOrder table order = is_order _ _ _ _ c.as_slice-table.ensures c.deref.ensures.value c.requires in
    is_order _ _ _ _
    (c.in_ok-push.ensures.ok ∙ ap (λ t. t ++ (key, sig) ∷ []) (sym c.as_slice-table.ensures))
    (inserted c.insert.result _ _ _ (sym c.is_err.ensures.value ∙ c.if-is_err.false) c.insert.ensures.items
    ∙ ap (λ places. insert places at (length table)) (c.in_ok-reserve.ensures.items ∙ sym c.deref.ensures.value))
    (put_in table order is key sig at c.count_before-at.ensures.bound c.count_before-at.ensures.split)
