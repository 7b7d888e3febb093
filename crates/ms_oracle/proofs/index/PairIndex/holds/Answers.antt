use Rattle.std.proofs.Common.{◌∙◌, rules}
use Rattle.std.proofs.lemmas.Fn.{always_returns_same}
use Rattle.ms_oracle.specs.Places.{pair_at}
use Rattle.ms_oracle.specs.Scaffolding.Index.{pair_cmp}
use Rattle.ms_oracle.proofs.Indexes.{search_finds}
use Rattle.ms_oracle.proofs.index.PairIndex.holds.Goals as goal

-- the closure ranks the pair at a place, and the slice is the places in order
pub returns : goal.returns
returns c =
    let facts = rw c.deref.ensures.value at c.binary_search_by.ensures in
    let table = c.self.inside.table.now in
    let by_rank = facts.position (λ place. pair_cmp (pair_at table place) (c.args.key.now, c.args.sig.now)) (always_returns_same _ _ _ (λ a r f' called. search rules)) in
    rw (← c.self.view_is)
    (c.is_ok.ensures.value ∙ search_finds table c.self.inside.order.items c.self.invariant c.args.key.now c.args.sig.now c.binary_search_by.result facts.bound by_rank)
