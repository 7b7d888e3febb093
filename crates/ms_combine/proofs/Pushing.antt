-- Of the pairs of a map those are added whose places are the first with their keys.
use Rattle.std.proofs.Common.{◌≡◌, ℕ, zero, suc, ◌<◌, min, Bool, true, false, cond, List, [], ◌∷◌, ◌++◌, length, map, filter, All, get_or, Some, None, refl, sym, ap, subst, ◌∙◌, append_assoc, arith}
use Rattle.std.specs.List.{flat_map, AllByRecursion}
use Rattle.std.specs.List.Sorted.{IsPermutation}
use Rattle.std.proofs.lemmas.List.{append-nil, get_or_default}
use Rattle.std.proofs.lemmas.List.Concat.{flat_map-cons}
use Rattle.std.proofs.lemmas.List.Elements.{All-from_recursion, recursion_from_All, filter-append}
use Rattle.std.proofs.lemmas.Grind.{flat_map-append}
use Rattle.std.proofs.lemmas.List.Sorted.{All-permutation, IsPermutation-sym}
use Rattle.def_script.specs.Bytes.{Bytes}
use Rattle.ms_combine.specs.declared.keys.Marked.{Marked}
use Rattle.ms_combine.specs.Scaffolding.Places.{pair_text_at, next_at}
use Rattle.ms_combine.specs.Scaffolding.Order.{IsMarked, StandsIn, IsFirst}
use Rattle.ms_combine.specs.Scaffolding.Walk.{places_from, marked_at}
use Rattle.ms_combine.specs.Scaffolding.Earliest.{is_earliest, earliest_text, all_places}
use Rattle.ms_combine.proofs.Earliest.{earliest_is, same_earliest}
use Rattle.ms_combine.proofs.Walking.{Left, goes_on, ends, so}

-- ---- along a walk

-- what was added, what is left to add, and where the map ends
abbrev pub Pushing : (bytes : Bytes) (order : List Marked) (out all : Bytes) (end : ℕ) → List ℕ → ℕ → Type 0
Pushing bytes order out all end places last = AllByRecursion (StandsIn order) places × (out ++ earliest_text bytes order places ≡ all) × (last ≡ end)

pub stands_here : (bytes : Bytes) (order : List Marked) (out all : Bytes) (end at next : ℕ) → next_at bytes at ≡ Some next → Left bytes at (Pushing bytes order out all end) → StandsIn order at
stands_here bytes order out all end at next e h = (goes_on bytes at next (Pushing bytes order out all end) e h).holds.0.0

-- the text of one more place
one_text : (bytes : Bytes) (order : List Marked) (at : ℕ) (places : List ℕ) → is_earliest bytes order at ≡ true
    → earliest_text bytes order (at ∷ places) ≡ pair_text_at bytes at ++ earliest_text bytes order places
one_text bytes order at places first =
    ap (λ (b : Bool). flat_map (pair_text_at bytes) (cond b (at ∷ filter (is_earliest bytes order) places) (filter (is_earliest bytes order) places))) first
    ∙ flat_map-cons (pair_text_at bytes) at (filter (is_earliest bytes order) places)

no_text : (bytes : Bytes) (order : List Marked) (at : ℕ) (places : List ℕ) → is_earliest bytes order at ≡ false
    → earliest_text bytes order (at ∷ places) ≡ earliest_text bytes order places
no_text bytes order at places other =
    ap (λ (b : Bool). flat_map (pair_text_at bytes) (cond b (at ∷ filter (is_earliest bytes order) places) (filter (is_earliest bytes order) places))) other

pub added : (bytes : Bytes) (order : List Marked) (out new all : Bytes) (end at next : ℕ) → next_at bytes at ≡ Some next → IsFirst bytes order at true
    → new ≡ out ++ pair_text_at bytes at → Left bytes at (Pushing bytes order out all end) → Left bytes next (Pushing bytes order new all end)
added bytes order out new all end at next e first is h =
    so bytes next (λ places last. Pushing bytes order out all end (at ∷ places) last) (Pushing bytes order new all end)
    (λ places last held. (
      held.0.1,
      ap (λ (l : Bytes). l ++ earliest_text bytes order places) is ∙ append_assoc out (pair_text_at bytes at) (earliest_text bytes order places)
          ∙ ap (λ (l : Bytes). out ++ l) (sym (one_text bytes order at places (earliest_is bytes order at true first))) ∙ held.1,
      held.2,
    ))
    (goes_on bytes at next (Pushing bytes order out all end) e h)

pub passed_over : (bytes : Bytes) (order : List Marked) (out all : Bytes) (end at next : ℕ) → next_at bytes at ≡ Some next → IsFirst bytes order at false
    → Left bytes at (Pushing bytes order out all end) → Left bytes next (Pushing bytes order out all end)
passed_over bytes order out all end at next e first h =
    so bytes next (λ places last. Pushing bytes order out all end (at ∷ places) last) (Pushing bytes order out all end)
    (λ places last held. (held.0.1, ap (λ (l : Bytes). out ++ l) (sym (no_text bytes order at places (earliest_is bytes order at false first))) ∙ held.1, held.2))
    (goes_on bytes at next (Pushing bytes order out all end) e h)

pub all_added : (bytes : Bytes) (order : List Marked) (out all : Bytes) (end at : ℕ) → next_at bytes at ≡ None → Left bytes at (Pushing bytes order out all end)
    → (out ≡ all) × (min (suc at) (length bytes) ≡ end)
all_added bytes order out all end at e h =
    let held = ends bytes at (Pushing bytes order out all end) e h in
    (sym (append-nil out) ∙ held.1, held.2)

-- ---- the places of an order

pub all_marked : (bytes : Bytes) (places : List ℕ) → All (IsMarked bytes) (map (marked_at bytes) places)
all_marked bytes places = All-from_recursion (IsMarked bytes) (map (marked_at bytes) places) (go places)
  where
    go : (places : List ℕ) → AllByRecursion (IsMarked bytes) (map (marked_at bytes) places)
    go [] = tt
    go (place ∷ places) = (refl, go places)

all_stand : (bytes : Bytes) (order : List Marked) (places : List ℕ) → IsPermutation (map (marked_at bytes) places) order → AllByRecursion (StandsIn order) places
all_stand bytes order places same =
    go places (recursion_from_All (λ (m : Marked). StandsIn order m.place) (map (marked_at bytes) places)
    (All-permutation (λ (m : Marked). StandsIn order m.place) order (map (marked_at bytes) places) (IsPermutation-sym (map (marked_at bytes) places) order same)
    (λ k d inside. record { at = k; inside = inside; is = λ e. ap (λ (m : Marked). m.place) (get_or_default order k e d inside) })))
  where
    go : (places : List ℕ) → AllByRecursion (λ (m : Marked). StandsIn order m.place) (map (marked_at bytes) places) → AllByRecursion (StandsIn order) places
    go [] h = tt
    go (place ∷ places) h = (h.0, go places h.1)

each_behind : (P : ℕ → Type 0) (xs ys : List ℕ) → AllByRecursion P (xs ++ ys) → AllByRecursion P xs × AllByRecursion P ys
each_behind P [] ys h = (tt, h)
each_behind P (x ∷ xs) ys h = let rest = each_behind P xs ys h.1 in ((h.0, rest.0), rest.1)

-- those of the map at one of some places
pub map_stands : (bytes : Bytes) (order : List Marked) (places : List ℕ) (i d : ℕ) → IsPermutation (map (marked_at bytes) (all_places bytes places)) order → i < length places
    → AllByRecursion (StandsIn order) (places_from bytes (length bytes) (get_or places i d))
map_stands bytes order places i d same less = go places i less (all_stand bytes order (all_places bytes places) same)
  where
    go : (places : List ℕ) (i : ℕ) → i < length places → AllByRecursion (StandsIn order) (all_places bytes places) → AllByRecursion (StandsIn order) (places_from bytes
        (length bytes) (get_or places i d))
    go [] i less h = absurd (omega (arith, less))
    go (place ∷ places) i less h = at i less
        (each_behind (StandsIn order) (places_from bytes (length bytes) place) (all_places bytes places)
        (subst (AllByRecursion (StandsIn order)) (flat_map-cons (places_from bytes (length bytes)) place places) h)) (go places)
      where
        at : (i : ℕ) → i < length (place ∷ places) → AllByRecursion (StandsIn order) (places_from bytes (length bytes) place) × AllByRecursion (StandsIn order) (all_places bytes places)
            → ((i : ℕ) → i < length places → AllByRecursion (StandsIn order) (all_places bytes places) → AllByRecursion (StandsIn order) (places_from bytes (length bytes) (get_or places i d)))
            → AllByRecursion (StandsIn order) (places_from bytes (length bytes) (get_or (place ∷ places) i d))
        at zero less h rest = h.0
        at (suc i) less h rest = rest i (omega (arith, less)) h.1

-- the order tells nothing
pub same_text : (bytes : Bytes) (before order : List Marked) (places : List ℕ) → IsPermutation before order → earliest_text bytes order places ≡ earliest_text bytes before places
same_text bytes before order places same = ap (flat_map (pair_text_at bytes)) (go places)
  where
    go : (places : List ℕ) → filter (is_earliest bytes order) places ≡ filter (is_earliest bytes before) places
    go [] = refl
    go (place ∷ places) =
        ap (λ (b : Bool). cond b (place ∷ filter (is_earliest bytes order) places) (filter (is_earliest bytes order) places)) (same_earliest bytes before order place same)
        ∙ ap (λ (l : List ℕ). cond (is_earliest bytes before place) (place ∷ l) l) (go places)

-- the texts of places, and then of others
pub text_both : (bytes : Bytes) (order : List Marked) (places others : List ℕ)
    → earliest_text bytes order (places ++ others) ≡ earliest_text bytes order places ++ earliest_text bytes order others
text_both bytes order places others =
    ap (flat_map (pair_text_at bytes)) (filter-append (is_earliest bytes order) places others)
    ∙ flat_map-append (pair_text_at bytes) (filter (is_earliest bytes order) places) (filter (is_earliest bytes order) others)
