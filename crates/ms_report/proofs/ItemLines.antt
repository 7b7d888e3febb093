-- The lines of a stack's items, one after the other.
use Rattle.std.proofs.Common.{◌≡◌, ℕ, ◌+◌, ◌<◌, ◌≤◌, ◌++◌, List, [], length, get_or, drop, append_assoc, append-nil, sym, subst, ◌∙◌}
use Rattle.std.specs.List.{flat_map}
use Rattle.std.proofs.lemmas.List.{drop_more, drop_all}
use Rattle.def_script.specs.Bytes.{Bytes}
use Rattle.def_answer.specs.Satisfy.{item_line}

-- an item more
pub one_more_item : (before after all item : Bytes) (stack : List Bytes) (i : ℕ) → i < length stack → item ≡ get_or stack i []
    → after ≡ before ++ item_line item → before ++ flat_map item_line (drop i stack) ≡ all → after ++ flat_map item_line (drop (i + 1) stack) ≡ all
one_more_item before after all item stack i below is e h =
    let rest = subst (λ ds. before ++ flat_map item_line ds ≡ all) (drop_more stack i [] below) h in
    rw (e, is, append_assoc) rest

pub no_more_items : (before all : Bytes) (stack : List Bytes) (i : ℕ) → length stack ≤ i → before ++ flat_map item_line (drop i stack) ≡ all → before ≡ all
no_more_items before all stack i past h =
    let none = drop_all i stack past in
    sym (append-nil before) ∙ subst (λ ds. before ++ flat_map item_line ds ≡ all) none h
