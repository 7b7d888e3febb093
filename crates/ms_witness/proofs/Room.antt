-- Room for the bytes of a witness.
use Rattle.std.proofs.Common.{◌≡◌, ℕ, ◌+◌, ◌^◌, ◌≤◌, nat_lt, true, List, [], ◌∷◌, ◌++◌, length, inl, inr, ap, ◌∙◌, append-nil, arith}
use Rattle.std.specs.List.{flat_map}
use Rattle.std.proofs.lemmas.Bool.{cases_Bool, lt-ltb}
use Rattle.std.proofs.lemmas.List.{length-append}
use Rattle.std.proofs.lemmas.List.Concat.{flat_map-append}
use Rattle.def_script.specs.Bytes.{Bytes}
use Rattle.def_script.specs.Sizes.{size_bytes}
use Rattle.def_script.specs.Witness.{sized, witness_text}
use Rattle.ms_witness.specs.Reading.{MOST_WITNESS, FitsWitness}

-- a size here takes at most three bytes
short_size : (n : ℕ) → n ≤ MOST_WITNESS → length (size_bytes n) ≤ 3
unfolding size_bytes
short_size n few =
    elim (cases_Bool (nat_lt n 0xfd)) [
      | inl one ↦ rw one (omega arith)
      | inr over ↦ let two : nat_lt n (2 ^ 16) ≡ true = lt-ltb _ _ (omega (arith, few)) in rw (over, two) (omega arith)
    ]

-- and so an item with its size at most three more than the item
pub sized_item : (item : Bytes) → length item ≤ MOST_WITNESS → length (sized item) ≤ 3 + length item
sized_item item short = omega (arith, length-append (size_bytes (length item)) item, short_size (length item) short)

-- room for one more item
pub one_more : (items : List Bytes) (item : Bytes) → length item ≤ MOST_WITNESS
    → length (flat_map sized (items ++ item ∷ [])) ≤ length (flat_map sized items) + (3 + length item)
one_more items item short =
    let parts : flat_map sized (items ++ item ∷ []) ≡ flat_map sized items ++ sized item = flat_map-append sized items (item ∷ [])
    ∙ ap (λ (b : Bytes). flat_map sized items ++ b) (append-nil (sized item)) in
    let long : length (flat_map sized (items ++ item ∷ [])) ≡ length (flat_map sized items) + length (sized item) = ap (λ (b : Bytes). length b) parts
    ∙ length-append (flat_map sized items) (sized item) in
    omega (arith, long, sized_item item short)

-- room for all of them
pub whole : (stack : List Bytes) (script : Bytes) → FitsWitness stack script → length (witness_text stack script) ≤ length (flat_map sized stack) + (6 + length script)
whole stack script fits =
    let count : length (stack ++ script ∷ []) ≡ length stack + 1 = length-append stack (script ∷ []) in
    let size : length (size_bytes (length (stack ++ script ∷ []))) ≤ 3 = short_size (length (stack ++ script ∷ [])) (omega (arith, count, fits.few)) in
    let long = length-append (size_bytes (length (stack ++ script ∷ []))) (flat_map sized (stack ++ script ∷ [])) in
    omega (arith, long, size, one_more stack script fits.last)
