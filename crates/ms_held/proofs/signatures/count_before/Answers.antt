use Rattle.std.proofs.Common.{rules}
use Rattle.std.proofs.lemmas.Fn.{always_returns_same}
use Rattle.ms_held.specs.Scaffolding.Order.{Rank, is_before}
use Rattle.ms_held.proofs.Orders.{partitioned}
use Rattle.ms_held.proofs.signatures.count_before.Goals as goal

-- the closure tells whether a place comes before, and of sorted places those that do stand first
pub returns-clause-split : goal.returns-clause-split
returns-clause-split c =
    let table = c.args.table.now in
    let rank : Rank = record { key = c.args.key.now; size = c.args.size; place = c.args.place } in
    c.partition_point.ensures.partitioned (is_before table rank) (always_returns_same _ _ _ (λ a r f' called. search rules))
    (partitioned table c.args.order.now rank c.requires)
