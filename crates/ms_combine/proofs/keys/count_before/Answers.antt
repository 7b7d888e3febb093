use Rattle.std.proofs.Common.{ℕ, ap, subst, ◌∙◌, rules}
use Rattle.std.proofs.lemmas.Fn.{always_returns_same}
use Rattle.def_script.specs.Bytes.{Bytes}
use Rattle.ms_combine.specs.Scaffolding.Order.{mark_of, Rank, is_before, SplitsAt}
use Rattle.ms_combine.proofs.Firsts.{partitioned}
use Rattle.ms_combine.proofs.keys.count_before.Goals as goal

-- the closure tells whether a place comes before, and of sorted places those that do stand first
pub returns : goal.returns
returns c =
    let bytes = c.args.bytes.now in
    let rank : Rank = (c.mark_of-mark.result, (c.key_at-key.result.now, 0)) in
    subst (λ (r : Rank). SplitsAt c.args.bytes.now r c.args.order.now c.partition_point.result)
    (ap (λ (m : ℕ). (m, (c.key_at-key.result.now, 0))) c.mark_of-mark.ensures ∙ ap (λ (k : Bytes). (mark_of k, (k, 0))) c.key_at-key.ensures)
    (c.partition_point.ensures.partitioned (is_before bytes rank) (always_returns_same _ _ _ (λ a r f' called. search rules)) (partitioned bytes c.args.order.now rank c.requires))
