-- Reading items one after the other, as a loop does.
use Rattle.std.proofs.Common.{◌≡◌, ℕ, zero, suc, ◌-◌, ◌+◌, ◌≤◌, ◌<◌, List, [], ◌∷◌, ◌++◌, Some, None, length, take, refl, sym, ap, ◌∙◌, append_assoc, arith}
use Rattle.std.specs.Borrow.{Bor}
use Rattle.std.proofs.lemmas.List.{append-nil}
use Rattle.def_script.specs.Bytes.{Bytes}
use Rattle.def_psbt.specs.Part.{◌>>=◌, Part, first_string, first_many}
use Rattle.ms_input.specs.Verdicts.{items_in}

-- what is still read, after what was read before
abbrev pub after : (front : List Bytes) → Part (List Bytes) → Part (List Bytes)
after front reading = reading >>= λ items. Some (front ++ items.0, items.1)

regroup : (front : List Bytes) (item : Bytes) (reading : Part (List Bytes)) → after front (reading >>= λ items. Some (item ∷ items.0, items.1)) ≡ after (front ++ item ∷ []) reading
regroup front item (Some items) = ap (λ (all : List Bytes). Some (all, items.1)) (simp append_assoc)
regroup front item None = refl

pub goes_on : (front : List Bytes) (count i : ℕ) (bytes item rest : Bytes) (total : Part (List Bytes)) → i < count → first_string bytes ≡ Some (item, rest)
    → after front (first_many first_string (count - i) bytes) ≡ total → after (front ++ item ∷ []) (first_many first_string (count - (i + 1)) rest) ≡ total
unfolding first_many
goes_on front count i bytes item rest total more read so_far =
    let one_more : count - i ≡ suc (count - (i + 1)) = omega arith in
    let one : after front (first_many first_string (count - i) bytes) ≡ after (front ++ item ∷ []) (first_many first_string (count - (i + 1)) rest) =
    rw (one_more, read) (regroup front item (first_many first_string (count - (i + 1)) rest)) in
    sym one ∙ so_far

pub ends : (front : List Bytes) (count i : ℕ) (bytes : Bytes) (total : Part (List Bytes)) → i < count → first_string bytes ≡ None
    → after front (first_many first_string (count - i) bytes) ≡ total → total ≡ None
unfolding first_many
ends front count i bytes total more read so_far =
    let one_more : count - i ≡ suc (count - (i + 1)) = omega arith in
    let one : after front (first_many first_string (count - i) bytes) ≡ None = rw (one_more, read) refl in
    sym so_far ∙ one

pub is_done : (front : List Bytes) (count i : ℕ) (bytes : Bytes) (total : Part (List Bytes)) → count ≤ i → after front (first_many first_string (count - i) bytes) ≡ total → total ≡ Some (front, bytes)
unfolding first_many
is_done front count i bytes total none so_far =
    let no_more : count - i ≡ 0 = omega arith in
    let one : after front (first_many first_string (count - i) bytes) ≡ Some (front, bytes) = rw no_more (ap (λ (all : List Bytes). Some (all, bytes)) (append-nil front)) in
    sym so_far ∙ one

-- ---- the items below the last

front_is : (n : ℕ) (items : List (Bor Bytes)) → items_in (take n items) ≡ take n (items_in items)
front_is zero items = refl
front_is (suc n) [] = refl
front_is (suc n) (item ∷ items) = ap (λ (l : List Bytes). item.now ∷ l) (front_is n items)

count_is : (items : List (Bor Bytes)) → length (items_in items) ≡ length items
count_is [] = refl
count_is (item ∷ items) = ap suc (count_is items)

pub below_last : (items : List (Bor Bytes)) → items_in (take (length items - 1) items) ≡ take (length (items_in items) - 1) (items_in items)
below_last items = front_is (length items - 1) items ∙ ap (λ (n : ℕ). take (n - 1) (items_in items)) (sym (count_is items))

-- the items with one more
pub grown : (items : List (Bor Bytes)) (item : Bor Bytes) → items_in (items ++ item ∷ []) ≡ items_in items ++ item.now ∷ []
grown [] item = refl
grown (first ∷ items) item = ap (λ (l : List Bytes). first.now ∷ l) (grown items item)
