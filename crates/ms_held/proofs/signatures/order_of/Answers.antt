use Rattle.std.proofs.Common.{rules}
use Rattle.std.specs.Ordering.{is_lt}
use Rattle.std.proofs.lemmas.Fn.{always_returns_same}
use Rattle.ms_held.specs.Scaffolding.Order.{rank_cmp, rank_of}
use Rattle.ms_held.proofs.Orders.{weak}
use Rattle.ms_held.proofs.signatures.order_of.Goals as goal

pub returns : goal.returns
returns c = record {
  whole = rw c.in_ok-order.ensures at c.sort_unstable_by.ensures.permutation;
  sorted = c.sort_unstable_by.ensures.sorted (λ first second. is_lt (rank_cmp (rank_of c.args.table.now first) (rank_of c.args.table.now second)))
      (weak c.args.table.now)
      (always_returns_same _ _ _ (λ a r f' called. search rules));
}
