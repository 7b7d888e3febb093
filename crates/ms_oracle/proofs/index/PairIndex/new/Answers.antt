use Rattle.std.proofs.Common.{rules}
use Rattle.std.specs.Ordering.{is_lt}
use Rattle.std.proofs.lemmas.Fn.{always_returns_same}
use Rattle.std.proofs.lemmas.List.Sorted.{ranks_by}
use Rattle.ms_oracle.specs.Places.{pair_at}
use Rattle.ms_oracle.specs.Scaffolding.Index.{pair_cmp}
use Rattle.ms_oracle.proofs.Indexes.{pair_cmp-total}
use Rattle.ms_oracle.proofs.index.PairIndex.new.Goals as goal

pub invariant_of-result : goal.invariant_of-result
invariant_of-result c =
    let table = c.args.table.now in
    record {
      whole = rw c.in_ok-order.ensures at c.in_ok-sort_by.ensures.permutation;
      sorted = c.in_ok-sort_by.ensures.sorted (λ first second. is_lt (pair_cmp (pair_at table first) (pair_at table second)))
          (ranks_by pair_cmp-total (pair_at table))
          (always_returns_same _ _ _ (λ a r f' called. search rules));
    }
