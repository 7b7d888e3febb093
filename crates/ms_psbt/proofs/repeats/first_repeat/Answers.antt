use Rattle.std.proofs.Common.{ℕ, [], sym, subst, ap, ◌∙◌, rules}
use Rattle.std.specs.List.Sorted.{IsStrictlyIncreasing}
use Rattle.std.specs.Ordering.{is_lt}
use Rattle.std.proofs.lemmas.Fn.{always_returns_same}
use Rattle.std.proofs.lemmas.List.{length-map}
use Rattle.std.proofs.lemmas.List.Sorted.{All-permutation, IsPermutation-map}
use Rattle.ms_psbt.specs.declared.repeats.Marked.{Marked}
use Rattle.ms_psbt.specs.Scaffolding.Repeats.{IsMarkedBy, places_of, rank_cmp, rank_of, repeat_in, LeastOf}
use Rattle.ms_psbt.proofs.Repeating.{weak, sorted_places, least_is_first}
use Rattle.ms_psbt.proofs.repeats.first_repeat.Goals as goal

pub least_repeat-requires : goal.least_repeat-requires
least_repeat-requires c =
    let marks = c.mark_many.ensures.marks in
    (marks.0, All-permutation (IsMarkedBy marks.0 c.args.keys c.args.bytes.now) _ _ c.sort_unstable_by.ensures.permutation marks.1)

pub returns : goal.returns
returns c =
    let keys = c.args.keys in
    let bytes = c.args.bytes.now in
    let marked = c.mark_many.new.places in
    let order = c.sort_unstable_by.new.self in
    let same = c.mark_many.ensures.same in
    let mark = c.mark_many.ensures.marks.0 in
    let marks = All-permutation (IsMarkedBy mark keys bytes) _ _ c.sort_unstable_by.ensures.permutation c.mark_many.ensures.marks.1 in
    let sorted = c.sort_unstable_by.ensures.sorted (λ first second. is_lt (rank_cmp (rank_of keys bytes first) (rank_of keys bytes second))) (weak keys bytes)
    (always_returns_same _ _ _ (λ a r f' called. search rules)) in
    least_is_first mark keys bytes (places_of marked) (places_of order) (subst IsStrictlyIncreasing (sym same) c.requires.up)
    (IsPermutation-map (λ (m : Marked). m.place) _ _ c.sort_unstable_by.ensures.permutation)
    (sorted_places mark keys bytes order marks sorted)
    c.least_repeat.result
    (subst (λ (n : ℕ). LeastOf keys bytes (places_of order) n c.least_repeat.result) (sym (length-map order (λ (m : Marked). m.place))) c.least_repeat.ensures)
    ∙ ap (repeat_in keys bytes []) same
