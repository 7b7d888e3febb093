-- An item that is read is the item that was written, and what was written is read again; and so for many.
use Rattle.std.proofs.Common.{◌≡◌, ℕ, zero, suc, ◌≤◌, nat_lt, false, cond, List, [], ◌∷◌, ◌++◌, length, take, drop, Ok, Err, refl, sym, ap, subst, ◌∙◌, append_assoc, arith}
use Rattle.std.specs.List.{flat_map, AllByRecursion}
use Rattle.std.proofs.lemmas.Bool.{ltb-false, le-ltb}
use Rattle.std.proofs.lemmas.List.{take_at, drop_at, take-append-drop, length-append, length-take-le}
use Rattle.std.proofs.lemmas.List.Concat.{flat_map-cons}
use Rattle.def_script.specs.Bytes.{Bytes, IsBytes}
use Rattle.def_script.specs.Sizes.{size_bytes}
use Rattle.def_script.specs.Witness.{sized}
use Rattle.ms_witness.specs.declared.fault.WitnessFault.TheVariants.{Truncated, TooLong}
use Rattle.ms_witness.specs.Reading.{◌>>=◌, MOST_WITNESS, first_size, first_item, first_items}
use Rattle.ms_witness.proofs.Parts.{IsBytes-drop, bind_ok, guard_ok, ok_is, Takes, Takes-then, size_takes, size_again}

abbrev pub FitsItem : Bytes → Type 0
FitsItem item = length item ≤ MOST_WITNESS

pub item_takes : (bytes : Bytes) (part : Bytes × Bytes) → IsBytes bytes → first_item bytes ≡ Ok part → Takes bytes (sized part.0) part.1 × FitsItem part.0
unfolding first_item
item_takes bytes part fits e =
    let a = bind_ok (first_size bytes) (λ size. cond (nat_lt MOST_WITNESS size.0) (Err TooLong)
    (cond (nat_lt (length size.1) size.0) (Err Truncated) (Ok (take size.0 size.1, drop size.0 size.1)))) part e in
    let size = a.0 in
    let short = guard_ok (nat_lt MOST_WITNESS size.0) TooLong (cond (nat_lt (length size.1) size.0) (Err Truncated) (Ok (take size.0 size.1, drop size.0 size.1))) part a.2 in
    let there = guard_ok (nat_lt (length size.1) size.0) Truncated (Ok (take size.0 size.1, drop size.0 size.1)) part short.1 in
    let first = size_takes bytes size fits a.1 in
    let most : size.0 ≤ MOST_WITNESS = ltb-false _ _ short.0 in
    let long : size.0 ≤ length size.1 = ltb-false _ _ there.0 in
    let len : length (take size.0 size.1) ≡ size.0 = length-take-le size.0 size.1 long in
    let second : Takes size.1 (take size.0 size.1) (drop size.0 size.1) = record { parts = sym (take-append-drop size.0 size.1); rest_fits = IsBytes-drop size.0 size.1 first.rest_fits } in
    let both = Takes-then bytes (size_bytes size.0) size.1 (take size.0 size.1) (drop size.0 size.1) first second in
    let whole : Takes bytes (sized (take size.0 size.1)) (drop size.0 size.1) = subst (λ (n : ℕ). Takes bytes (size_bytes n ++ take size.0 size.1) (drop size.0 size.1)) (sym len) both in
    subst (λ (p : Bytes × Bytes). Takes bytes (sized p.0) p.1 × FitsItem p.0) (ok_is _ _ there.1) (whole, omega arith)

pub item_again : (item rest : Bytes) → FitsItem item → first_item (sized item ++ rest) ≡ Ok (item, rest)
unfolding first_item
item_again item rest short =
    let regrouped : sized item ++ rest ≡ size_bytes (length item) ++ (item ++ rest) = append_assoc (size_bytes (length item)) item rest in
    let most : nat_lt MOST_WITNESS (length item) ≡ false = le-ltb _ _ short in
    let long : nat_lt (length (item ++ rest)) (length item) ≡ false = le-ltb _ _ (omega (arith, length-append item rest)) in
    ap first_item regrouped ∙ rw (size_again (length item) (item ++ rest) (omega arith), most, long, take_at item rest (length item) refl, drop_at item rest (length item) refl) refl

pub items_take : (count : ℕ) (bytes : Bytes) (part : List Bytes × Bytes) → IsBytes bytes → first_items count bytes ≡ Ok part
    → Takes bytes (flat_map sized part.0) part.1 × (length part.0 ≡ count) × AllByRecursion FitsItem part.0
unfolding first_items
items_take zero bytes part fits e =
    subst (λ (p : List Bytes × Bytes). Takes bytes (flat_map sized p.0) p.1 × (length p.0 ≡ 0) × AllByRecursion FitsItem p.0) (ok_is ([], bytes) part e)
    (record { parts = refl; rest_fits = fits }, refl, tt)
items_take (suc count) bytes part fits e =
    let a = bind_ok (first_item bytes) (λ item. first_items count item.1 >>= λ items. Ok (item.0 ∷ items.0, items.1)) part e in
    let b = bind_ok (first_items count a.0.1) (λ items. Ok (a.0.0 ∷ items.0, items.1)) part a.2 in
    let first = item_takes bytes a.0 fits a.1 in
    let second = items_take count a.0.1 b.0 first.0.rest_fits b.1 in
    let both = Takes-then bytes (sized a.0.0) a.0.1 (flat_map sized b.0.0) b.0.1 first.0 second.0 in
    let made : List Bytes × Bytes = (a.0.0 ∷ b.0.0, b.0.1) in
    subst (λ (p : List Bytes × Bytes). Takes bytes (flat_map sized p.0) p.1 × (length p.0 ≡ suc count) × AllByRecursion FitsItem p.0) (ok_is made part b.2)
    (rw flat_map-cons both, ap suc second.1, (first.1, second.2))

pub items_again : (items : List Bytes) (rest : Bytes) → AllByRecursion FitsItem items → first_items (length items) (flat_map sized items ++ rest) ≡ Ok (items, rest)
unfolding first_items
items_again [] rest short = refl
items_again (item ∷ items) rest short =
    let regrouped : flat_map sized (item ∷ items) ++ rest ≡ sized item
    ++ (flat_map sized items ++ rest) = ap (λ (x : Bytes). x ++ rest) (flat_map-cons sized item items)
    ∙ append_assoc (sized item) (flat_map sized items) rest in
    ap (first_items (suc (length items))) regrouped ∙ rw (item_again item (flat_map sized items ++ rest) short.0, items_again items rest short.1) refl
