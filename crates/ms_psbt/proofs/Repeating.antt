-- The least neighbour whose key is the same, in the order of keys and places, is the first place whose key stands earlier too.
use Rattle.std.proofs.Common.{◌≡◌, ℕ, zero, suc, ◌+◌, ◌-◌, ◌<◌, ◌≤◌, ◌⊎◌, inl, inr, Bool, true, false, nat_le, List, [], ◌∷◌, ◌++◌, length, map, take, drop, get_or, Option, Some, None, refl, sym, ◌∙◌, ap, subst, arith, append_assoc}
use Rattle.std.proofs.Math.Seq.{drop-cons}
use Rattle.std.proofs.lemmas.List.{append-nil, get_or_default, get_or-map, length-map, length-take, get_or-take, drop_all}
use Rattle.std.proofs.lemmas.List.Folds.{Any-from_list_any, list_any_at}
use Rattle.std.proofs.lemmas.Map.Keys.{IsDistinct-from_apart, IsDistinct-IsPermutation, apart_from_distinct}
use lib.Dec.{eqb}
use Rattle.std.proofs.lemmas.Bool.{cases_lt, cases_Bool, eqb-false, ne_eqb, false_from_ne_true}
use Rattle.std.proofs.lemmas.Cmp.{nat_list_cmp_total, nat_cmp_total, on_total, then_total, tied_itself}
use Rattle.std.proofs.lemmas.List.Kept.{AllPairs-from_increasing}
use Rattle.std.proofs.lemmas.List.Sorted.{ranks_by, sorted_far, Contains-permutation, IsPermutation-sym}
use Rattle.std.proofs.lemmas.Map.Text.{is_eq-slice_cmp}
use Rattle.std.proofs.lemmas.Slice.Eq.{bytes_eq-Decides}
use Rattle.std.specs.Cmp.{IsTotalOrder, IsStrictWeakOrder}
use Rattle.std.specs.List.{list_any, IsDistinct}
use Rattle.std.specs.List.Sorted.{IsPermutation, IsStrictlyIncreasing, IsSortedByKey}
use Rattle.std.specs.Ordering.{is_lt}
use Rattle.std.specs.Str.{bytes_eq}
use Rattle.def_script.specs.Bytes.{Bytes}
use Rattle.ms_psbt.specs.declared.repeats.Keys.{Keys}
use Rattle.ms_psbt.specs.declared.repeats.Marked.{Marked}
use Rattle.ms_psbt.specs.Scaffolding.Repeats.{key_at, AreMarkedBy, places_of, rank_cmp, rank_of, repeat_in, IsLeastRepeat, LeastOf, least_of}

-- ---- neighbours, one after the other

module _ (keys : Keys) (bytes : Bytes) (order : List ℕ) where
  abbrev Same : ℕ → Type 0
  Same k = key_at keys bytes (get_or order k 0) ≡ key_at keys bytes (get_or order (k + 1) 0)

  -- at the first element there are none
  pub least_none : LeastOf keys bytes order 1 None
  least_none = λ k h e. absurd (omega arith)

  pub least_same : (i : ℕ) (o : Option ℕ) → 1 ≤ i → LeastOf keys bytes order i o → Same (i - 1)
      → LeastOf keys bytes order (i + 1) (Some (least_of o (get_or order i 0)))
  least_same i o low h same = go o h (nat_le (least_of o (get_or order i 0)) (get_or order i 0)) refl
    where
      last : (least : ℕ) → least ≡ get_or order i 0 → ((k : ℕ) → k + 1 < i → Same k → least ≤ get_or order (k + 1) 0)
          → IsLeastRepeat keys bytes order (i + 1) least
      last least is early = record { place = i - 1; inside = omega arith; same = same; is = grind arith; bound = λ k inside e. grind (arith, early k) }

      go : (o : Option ℕ) → LeastOf keys bytes order i o → (b : Bool) → nat_le (least_of o (get_or order i 0)) (get_or order i 0) ≡ b
          → IsLeastRepeat keys bytes order (i + 1) (least_of o (get_or order i 0))
      go None h b e = last (get_or order i 0) refl (λ k inside e. absurd (h k inside e))
      go (Some least) h b e = elim (cases_Bool (nat_le least (get_or order i 0))) [
        | inl low ↦ rw low (record { place = h.place; inside = grind arith; same = h.same; is = h.is; bound = λ k inside e. grind (arith, h.bound k) })
        | inr high ↦ rw high (last (get_or order i 0) refl (λ k inside e. grind (arith, h.bound k)))
      ]

  pub least_other : (i : ℕ) (o : Option ℕ) → 1 ≤ i → LeastOf keys bytes order i o → (Same (i - 1) → ⊥) → LeastOf keys bytes order (i + 1) o
  least_other i None low h other = λ k inside e. grind (arith, h k)
  least_other i (Some least) low h other = record {
    place = h.place;
    inside = grind arith;
    same = h.same;
    is = h.is;
    bound = λ k inside e. grind
        (arith, h.bound k);
  }

  -- at the end, also of no elements
  pub least_end : (i n : ℕ) (o : Option ℕ) → n ≤ i → (1 ≤ n → i ≤ n) → i ≡ n ⊎ (n ≡ 0) × (i ≡ 1) → LeastOf keys bytes order i o → LeastOf keys bytes order n o
  least_end i n o below top (inl same) h = subst (λ (k : ℕ). LeastOf keys bytes order k o) same h
  least_end i n None below top (inr none) h = λ k inside e. absurd (let no = none.0 in omega arith)
  least_end i n (Some least) below top (inr none) h = absurd (let inside = h.inside in let one = none.1 in omega arith)

-- ---- neighbours among places with their marks

module _ (keys : Keys) (bytes : Bytes) (order : List Marked) (i : ℕ) (low : 1 ≤ i) (high : i < length order) (d : Marked) where
  abbrev these : List ℕ
  these = places_of order

  abbrev key_of : ℕ → Bytes
  key_of k = key_at keys bytes (get_or order k d).place

  place_is : (k : ℕ) → k < length order → get_or these k 0 ≡ (get_or order k d).place
  place_is k inside = get_or-map (λ (m : Marked). m.place) order k d 0 inside

  back : (i - 1) + 1 ≡ i
  back = omega arith

  key_before : key_at keys bytes (get_or these (i - 1) 0) ≡ key_of (i - 1)
  key_before = ap (key_at keys bytes) (place_is (i - 1) (omega arith))

  key_here : key_at keys bytes (get_or these ((i - 1) + 1) 0) ≡ key_of i
  key_here = ap (λ k. key_at keys bytes (get_or these k 0)) back ∙ ap (key_at keys bytes) (place_is i high)

  pub marked_same : (o : Option ℕ) → bytes_eq (key_of (i - 1)) (key_of i) ≡ true → LeastOf keys bytes these i o
      → LeastOf keys bytes these (i + 1) (Some (least_of o (get_or order i d).place))
  marked_same o e h =
      subst (λ place. LeastOf keys bytes these (i + 1) (Some (least_of o place))) (place_is i high)
      (least_same keys bytes these i o low h (key_before ∙ (bytes_eq-Decides (key_of (i - 1)) (key_of i)).0 e ∙ sym key_here))

  pub marked_other : (o : Option ℕ) → bytes_eq (key_of (i - 1)) (key_of i) ≡ false → LeastOf keys bytes these i o → LeastOf keys bytes these (i + 1) o
  marked_other o e h =
      least_other keys bytes these i o low h (λ same.
      let yes = (bytes_eq-Decides (key_of (i - 1)) (key_of i)).1 (sym key_before ∙ same ∙ key_here) in
      cc)

-- ---- the first place whose key stands earlier, by numbers

module _ (keys : Keys) (bytes : Bytes) where
  abbrev key : ℕ → Bytes
  key place = key_at keys bytes place

  -- the key at this number is one of some, or that of an earlier place
  abbrev seen : (before : List Bytes) → (places : List ℕ) → ℕ → Bool
  seen before places j = list_any (bytes_eq (key (get_or places j 0))) (before ++ map key (take j places))

  -- the first places can be left out where no key is seen there
  repeat_skips : (j : ℕ) (before : List Bytes) (places : List ℕ) → j ≤ length places → ((i : ℕ) → i < j → seen before places i ≡ false)
      → repeat_in keys bytes before places ≡ repeat_in keys bytes (before ++ map key (take j places)) (drop j places)
  unfolding repeat_in
  repeat_skips zero before places inside none = rw (append-nil before) refl
  repeat_skips (suc j) before [] inside none = absurd (omega arith)
  repeat_skips (suc j) before (place ∷ places) inside none =
      let first : list_any (bytes_eq (key place)) before ≡ false = rw (append-nil before) at (none 0 (omega arith)) in
      rw (first, ← append_assoc before (key place ∷ []) (map key (take j places)))
      (repeat_skips j (before ++ key place ∷ []) places (omega arith)
      (λ i below. rw (append_assoc before (key place ∷ []) (map key (take i places))) (none (suc i) (omega arith))))

  repeat_at : (places : List ℕ) (j : ℕ) → j < length places → ((i : ℕ) → i < j → seen [] places i ≡ false) → seen [] places j ≡ true
      → repeat_in keys bytes [] places ≡ Some (get_or places j 0)
  unfolding repeat_in
  repeat_at places j inside none is = repeat_skips j [] places (omega arith) none ∙ rw (drop-cons places j 0 inside, is) refl

  repeat_none : (places : List ℕ) → ((i : ℕ) → i < length places → seen [] places i ≡ false) → repeat_in keys bytes [] places ≡ None
  unfolding repeat_in
  repeat_none places none = repeat_skips (length places) [] places (omega arith) none ∙ rw (drop_all (length places) places (omega arith)) refl

  seen_at : (places : List ℕ) (j : ℕ) → j < length places → seen [] places j ≡ true → (i : ℕ) × (i < j) × (key (get_or places i 0) ≡ key (get_or places j 0))
  seen_at places j inside e =
      let any = Any-from_list_any (bytes_eq (key (get_or places j 0))) (map key (take j places)) e in
      let below : any.0 < j = omega (arith, any.2, length-map (take j places) key, length-take j places) in
      let made = get_or-map key (take j places) any.0 0 any.1 (omega (arith, any.2, length-map (take j places) key)) in
      (any.0, below, ap key (sym (get_or-take j places any.0 0 below)) ∙ sym made ∙ any.3 ∙ sym ((bytes_eq-Decides (key (get_or places j 0)) any.1).0 any.4))

  at_seen : (places : List ℕ) (i j : ℕ) → i < j → j < length places → key (get_or places i 0) ≡ key (get_or places j 0) → seen [] places j ≡ true
  at_seen places i j below inside e =
      list_any_at (bytes_eq (key (get_or places j 0))) (map key (take j places)) i [] (grind (arith, length-map (take j places) key, length-take j places))
      ((bytes_eq-Decides (key (get_or places j 0)) (get_or (map key (take j places)) i [])).1
      (grind (arith, get_or-map key (take j places) i 0 [], get_or-take j places i 0, length-take j places)))

-- ---- both come to the same

rank_cmp-total : IsTotalOrder rank_cmp
rank_cmp-total =
    then_total (on_total (λ (r : ℕ × (Bytes × ℕ)). r.0) nat_cmp_total)
    (then_total (on_total (λ (r : ℕ × (Bytes × ℕ)). r.1.0) nat_list_cmp_total) (on_total (λ (r : ℕ × (Bytes × ℕ)). r.1.1) nat_cmp_total))

pub weak : (keys : Keys) (bytes : Bytes) → IsStrictWeakOrder (λ (a b : Marked). is_lt (rank_cmp (rank_of keys bytes a) (rank_of keys bytes b)))
weak keys bytes = ranks_by rank_cmp-total (rank_of keys bytes)

-- the rank of a place by its key
abbrev rank_at : (mark : Bytes → ℕ) → Keys → (bytes : Bytes) → (place : ℕ) → ℕ × (Bytes × ℕ)
rank_at mark keys bytes place = (mark (key_at keys bytes place), (key_at keys bytes place, place))

-- places with the marks of their keys are in the order of places alone
pub sorted_places : (mark : Bytes → ℕ) (keys : Keys) (bytes : Bytes) (order : List Marked) → AreMarkedBy mark keys bytes order → IsSortedByKey (rank_of keys bytes) rank_cmp order
    → IsSortedByKey (rank_at mark keys bytes) rank_cmp (places_of order)
sorted_places mark keys bytes order all sorted k d low inside =
    let long : length (places_of order) ≡ length order = length-map order (λ (m : Marked). m.place) in
    let first = rank_is k (omega (arith, long)) in
    let second = rank_is (k + 1) (omega (arith, long)) in
    ap (λ r. is_lt (rank_cmp r (rank_at mark keys bytes (get_or (places_of order) k d)))) second
    ∙ ap (λ r. is_lt (rank_cmp (rank_of keys bytes (get_or order (k + 1) none)) r)) first
    ∙ sorted k none low (omega (arith, long))
  where
    none : Marked
    none = record { mark = 0; place = 0 }

    rank_is : (i : ℕ) → i < length order → rank_at mark keys bytes (get_or (places_of order) i d) ≡ rank_of keys bytes (get_or order i none)
    rank_is i within =
        ap (rank_at mark keys bytes) (get_or-map (λ (m : Marked). m.place) order i none d within)
        ∙ ap (λ (m : ℕ). (m, (key_at keys bytes (get_or order i none).place, (get_or order i none).place))) (sym (all i none within))

-- the ranks of two keys at two places
abbrev rank_less : (mark : Bytes → ℕ) → (first : Bytes) → (m : ℕ) → (second : Bytes) → (n : ℕ) → Bool
rank_less mark first m second n = is_lt (rank_cmp (mark first, (first, m)) (mark second, (second, n)))

-- with one key that which isn't before the other has no lesser place
no_earlier : (mark : Bytes → ℕ) (key : Bytes) (m n : ℕ) → rank_less mark key m key n ≡ false → n ≤ m
no_earlier mark key m n h = grind (arith, tied_itself nat_list_cmp_total key)

-- what stands between two with one key has it too
between : (mark : Bytes → ℕ) (key other : Bytes) (m n p : ℕ) → rank_less mark other m key n ≡ false → rank_less mark key p other m ≡ false → other ≡ key
between mark key other m n p f g = grind (arith, nat_list_cmp_total.antisymm other key, bytes_eq-Decides other key, is_eq-slice_cmp other key)

eqb-flips : (m n : ℕ) → eqb m n ≡ eqb n m
eqb-flips m n = grind arith

distinct_from_up : (places : List ℕ) → IsStrictlyIncreasing places → IsDistinct eqb places
distinct_from_up places up = IsDistinct-from_apart eqb places (λ i j d below inside. let less = AllPairs-from_increasing places up i j d below inside in ne_eqb _ _ (λ e. omega arith))

module _ (mark : Bytes → ℕ) (keys : Keys) (bytes : Bytes) (places order : List ℕ) (up : IsStrictlyIncreasing places) (moved : IsPermutation places order)
    (sorted : IsSortedByKey (rank_at mark keys bytes) rank_cmp order) where
  abbrev key_at_place : ℕ → Bytes
  key_at_place place = key_at keys bytes place

  apart : (i j : ℕ) → i < j → j < length order → get_or order i 0 ≡ get_or order j 0 → ⊥
  apart i j below inside e =
      let distinct = IsDistinct-IsPermutation eqb eqb-flips places order moved (distinct_from_up places up) in
      eqb-false _ _ (apart_from_distinct eqb order i j 0 distinct below inside) e

  in_places : (k : ℕ) → k < length order → (i : ℕ) × (i < length places) × (get_or places i 0 ≡ get_or order k 0)
  in_places k inside =
      let x = get_or order k 0 in
      let found = Contains-permutation order places x (IsPermutation-sym places order moved) (k, inside, get_or_default order k x 0 inside) in
      (found.0, found.1, get_or_default places found.0 0 x found.1 ∙ found.2)

  in_order : (i : ℕ) → i < length places → (k : ℕ) × (k < length order) × (get_or order k 0 ≡ get_or places i 0)
  in_order i inside =
      let x = get_or places i 0 in
      let found = Contains-permutation places order x moved (i, inside, get_or_default places i x 0 inside) in
      (found.0, found.1, get_or_default order found.0 0 x found.1 ∙ found.2)

  far : (i j : ℕ) → i < j → j < length order → rank_less mark (key_at_place (get_or order j 0)) (get_or order j 0) (key_at_place (get_or order i 0))
      (get_or order i 0) ≡ false
  far i j below inside = sorted_far _ (ranks_by rank_cmp-total (rank_at mark keys bytes)) order sorted i j 0 (omega arith) inside

  -- neighbours with one key are a place and an earlier one
  neighbours : (k : ℕ) → k + 1 < length order → key_at_place (get_or order k 0) ≡ key_at_place (get_or order (k + 1) 0)
      → (j : ℕ) × (j < length places) × (get_or places j 0 ≡ get_or order (k + 1) 0) × (seen keys bytes [] places j ≡ true)
  neighbours k inside e =
      let first = in_places k (omega arith) in
      let second = in_places (k + 1) inside in
      let ordered : get_or order k 0 ≤ get_or order (k + 1) 0 = no_earlier mark _ _ _ (rw e at (far k (k + 1) (omega arith) inside)) in
      let differ = apart k (k + 1) (omega arith) inside in
      let below : first.0 < second.0 = grind (arith, AllPairs-from_increasing places up second.0 first.0 0) in
      (second.0, second.1, second.2, at_seen keys bytes places first.0 second.0 below second.1 (ap key_at_place first.2 ∙ e ∙ ap key_at_place (sym second.2)))

  -- a place and an earlier one with its key have neighbours with one key
  repeats : (i j : ℕ) → i < j → j < length places → key_at_place (get_or places i 0) ≡ key_at_place (get_or places j 0)
      → (k : ℕ) × (k + 1 < length order) × (key_at_place (get_or order k 0) ≡ key_at_place (get_or order (k + 1) 0))
      × (get_or order (k + 1) 0 ≡ get_or places j 0)
  repeats i j below inside e =
      let first = in_order i (omega arith) in
      let second = in_order j inside in
      let same : key_at_place (get_or order first.0 0) ≡ key_at_place (get_or order second.0 0) = ap key_at_place first.2 ∙ e
      ∙ ap key_at_place (sym second.2) in
      let less : get_or places i 0 < get_or places j 0 = AllPairs-from_increasing places up i j 0 below inside in
      let before : first.0 < second.0 = grind (arith, no_earlier mark (key_at_place (get_or order second.0 0)), far second.0 first.0) in
      let m = second.0 - 1 in
      let last : m + 1 ≡ second.0 = omega arith in
      let has : key_at_place (get_or order m 0) ≡ key_at_place (get_or order second.0 0) =
      elim (cases_lt first.0 m) [
        | inl more ↦ between mark (key_at_place (get_or order second.0 0)) (key_at_place (get_or order m 0)) (get_or order m 0) (get_or order first.0 0)
            (get_or order second.0 0)
            (rw same at (far first.0 m more (omega arith))) (far m second.0 (omega arith) second.1)
        | inr one ↦ grind arith
      ] in
      (m, grind arith, grind arith, grind arith)

  pub least_is_first : (o : Option ℕ) → LeastOf keys bytes order (length order) o → o ≡ repeat_in keys bytes [] places
  least_is_first None h = sym (repeat_none keys bytes places (λ i inside. false_from_ne_true _ (λ is.
      let earlier = seen_at keys bytes places i inside is in
      let found = repeats earlier.0 i earlier.1 inside earlier.2 in
      h found.0 found.1 found.2)))
  least_is_first (Some least) h =
      let found = neighbours h.place h.inside h.same in
      sym (repeat_at keys bytes places found.0 found.1 (λ i below. false_from_ne_true _ (λ is.
      let earlier = seen_at keys bytes places i (omega (arith, found.1)) is in
      let there = repeats earlier.0 i earlier.1 (omega (arith, found.1)) earlier.2 in
      let low = h.bound there.0 there.1 there.2 in
      let less = AllPairs-from_increasing places up i found.0 0 below found.1 in
      omega (arith, there.3, found.2, h.is))) found.3 ∙ ap Some (found.2 ∙ sym h.is))
