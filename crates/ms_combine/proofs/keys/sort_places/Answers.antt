use Rattle.std.proofs.Common.{rules}
use Rattle.std.specs.Ordering.{is_lt}
use Rattle.std.proofs.lemmas.Fn.{always_returns_same}
use Rattle.std.proofs.lemmas.List.Sorted.{All-permutation}
use Rattle.ms_combine.specs.Scaffolding.Order.{rank_cmp, rank_of, IsMarked}
use Rattle.ms_combine.proofs.Firsts.{weak}
use Rattle.ms_combine.proofs.keys.sort_places.Goals as goal

pub returns-clause-order : goal.returns-clause-order
returns-clause-order c =
    let bytes = c.args.bytes.now in
    record {
      marks = All-permutation (IsMarked bytes) _ _ c.sort_unstable_by.ensures.permutation c.requires;
      sorted = c.sort_unstable_by.ensures.sorted (λ first second. is_lt (rank_cmp (rank_of bytes first) (rank_of bytes second))) (weak bytes)
          (always_returns_same _ _ _ (λ a r f' called. search rules));
    }
