-- The first place of a key in an order of places.
use Rattle.std.proofs.Common.{◌≡◌, ℕ, ◌<◌, ◌≤◌, ◌==◌, Bool, true, false, List, length, get_or, refl, sym, ap, subst, ◌∙◌, arith, inl, inr}
use Rattle.std.proofs.lemmas.Bool.{cases_lt, eqb-true, eqb-false, false≢true, true_from_ne_false}
use Rattle.std.proofs.lemmas.Cmp.{nat_list_cmp_total, nat_cmp_total, on_total, then_total, tied_itself}
use Rattle.std.proofs.lemmas.List.Sorted.{ranks_by, sorted_far}
use Rattle.std.proofs.lemmas.Map.Text.{is_eq-slice_cmp}
use Rattle.std.proofs.lemmas.Slice.Eq.{bytes_eq-Decides}
use Rattle.std.specs.Cmp.{IsTotalOrder, IsStrictWeakOrder}
use Rattle.std.specs.List.Sorted.{IsPartitionedBy}
use Rattle.std.specs.Ordering.{is_lt}
use Rattle.def_script.specs.Bytes.{Bytes}
use Rattle.ms_combine.specs.declared.keys.Marked.{Marked}
use Rattle.ms_combine.specs.Scaffolding.Places.{key_at}
use Rattle.ms_combine.specs.Scaffolding.Order.{mark_of, Rank, rank_cmp, rank_of, least_rank, is_before, SplitsAt, IsOrder, StandsIn, IsFirst}

rank_cmp-total : IsTotalOrder rank_cmp
rank_cmp-total =
    then_total (on_total (λ (r : Rank). r.0) nat_cmp_total)
    (then_total (on_total (λ (r : Rank). r.1.0) nat_list_cmp_total) (on_total (λ (r : Rank). r.1.1) nat_cmp_total))

pub weak : (bytes : Bytes) → IsStrictWeakOrder (λ (a b : Marked). is_lt (rank_cmp (rank_of bytes a) (rank_of bytes b)))
weak bytes = ranks_by rank_cmp-total (rank_of bytes)

ranks_weak : IsStrictWeakOrder (λ (a b : Rank). is_lt (rank_cmp a b))
ranks_weak = ranks_by rank_cmp-total (λ (r : Rank). r)

pub partitioned : (bytes : Bytes) (order : List Marked) (rank : Rank) → IsOrder bytes order → IsPartitionedBy (is_before bytes rank) order
partitioned bytes order rank is i j d below inside before =
    true_from_ne_false _ (λ no. false≢true (sym (ranks_weak.chain (rank_of bytes (get_or order j d)) (rank_of bytes (get_or order i d)) rank
    (sorted_far _ (weak bytes) order is.sorted i j d below inside) no) ∙ before))

-- ---- ranks by keys alone

abbrev rank_less : (mark : Bytes → ℕ) → (first : Bytes) → (m : ℕ) → (second : Bytes) → (n : ℕ) → Bool
rank_less mark first m second n = is_lt (rank_cmp (mark first, (first, m)) (mark second, (second, n)))

-- with one key that which isn't before the other has no lesser place
no_earlier : (mark : Bytes → ℕ) (key : Bytes) (m n : ℕ) → rank_less mark key m key n ≡ false → n ≤ m
no_earlier mark key m n h = grind (arith, tied_itself nat_list_cmp_total key)

-- nothing with a key comes before its place 0
none_less : (mark : Bytes → ℕ) (key : Bytes) (m : ℕ) → rank_less mark key m key 0 ≡ false
none_less mark key m = grind (arith, tied_itself nat_list_cmp_total key)

-- what stands between two with one key has it too
between : (mark : Bytes → ℕ) (key other : Bytes) (m n p : ℕ) → rank_less mark other m key n ≡ false → rank_less mark key p other m ≡ false → other ≡ key
between mark key other m n p f g = grind (arith, nat_list_cmp_total.antisymm other key, bytes_eq-Decides other key, is_eq-slice_cmp other key)

-- ---- what is found

module _ (bytes : Bytes) (order : List Marked) (is : IsOrder bytes order) (place : ℕ) (stands : StandsIn order place) (at : ℕ)
    (split : SplitsAt bytes (least_rank bytes place) order at) where
  abbrev key : Bytes
  key = key_at bytes place

  -- with its mark by its key
  rank_is : (k : ℕ) (d : Marked) → k < length order → rank_of bytes (get_or order k d)
      ≡ (mark_of (key_at bytes (get_or order k d).place), (key_at bytes (get_or order k d).place, (get_or order k d).place))
  rank_is k d inside = ap (λ (m : ℕ). (m, (key_at bytes (get_or order k d).place, (get_or order k d).place))) (is.marks k d inside)

  keyed : (k : ℕ) (d : Marked) → k < length order → key_at bytes (get_or order k d).place ≡ key_at bytes place
      → rank_of bytes (get_or order k d) ≡ (mark_of (key_at bytes place), (key_at bytes place, (get_or order k d).place))
  keyed k d inside same = rank_is k d inside ∙ ap (λ (x : Bytes). (mark_of x, (x, (get_or order k d).place))) same

  -- what has the key stands from there on
  reached : (k : ℕ) (d : Marked) → k < length order → key_at bytes (get_or order k d).place ≡ key_at bytes place → at ≤ k
  reached k d inside same = elim (cases_lt k at) [
    | inr later ↦ later
    | inl below ↦
        let no : is_before bytes (least_rank bytes place) (get_or order k d) ≡ false =
        ap (λ (r : Rank). is_lt (rank_cmp r (least_rank bytes place))) (keyed k d inside same) ∙ none_less mark_of (key_at bytes place) (get_or order k d).place in
        absurd (false≢true (sym no ∙ split.0 k d (omega arith) below))
  ]

  own : (d : Marked) → key_at bytes (get_or order stands.at d).place ≡ key_at bytes place
  own d = ap (key_at bytes) (stands.is d)

  pub inside : (d : Marked) → at < length order
  inside d = let there = reached stands.at d stands.inside (own d) in let less = stands.inside in omega (arith, there, less)

  -- what has the key doesn't stand before it in the order
  behind : (k : ℕ) (d : Marked) → k < length order → key_at bytes (get_or order k d).place ≡ key_at bytes place
      → rank_less mark_of (key_at bytes place) (get_or order k d).place (key_at bytes (get_or order at d).place) (get_or order at d).place ≡ false
  behind k d less same =
      ap (λ (r : Rank). is_lt (rank_cmp r (mark_of (key_at bytes (get_or order at d).place), (key_at bytes (get_or order at d).place, (get_or order at d).place)))) (sym (keyed k d less same))
      ∙ ap (λ (r : Rank). is_lt (rank_cmp (rank_of bytes (get_or order k d)) r)) (sym (rank_is at d (inside d)))
      ∙ sorted_far _ (weak bytes) order is.sorted at k d (reached k d less same) less

  ahead : (d : Marked) → rank_less mark_of (key_at bytes (get_or order at d).place) (get_or order at d).place (key_at bytes place) 0 ≡ false
  ahead d = ap (λ (r : Rank). is_lt (rank_cmp r (least_rank bytes place))) (sym (rank_is at d (inside d))) ∙ split.1 at d (omega arith) (inside d)

  has_key : (d : Marked) → key_at bytes (get_or order at d).place ≡ key_at bytes place
  has_key d =
      between mark_of (key_at bytes place) (key_at bytes (get_or order at d).place) (get_or order at d).place 0 (get_or order stands.at d).place (ahead d)
      (behind stands.at d stands.inside (own d))

  least : (k : ℕ) (d : Marked) → k < length order → key_at bytes (get_or order k d).place ≡ key_at bytes place → (get_or order at d).place ≤ (get_or order k d).place
  least k d less same =
      no_earlier mark_of (key_at bytes place) (get_or order k d).place (get_or order at d).place
      (subst (λ (x : Bytes). rank_less mark_of (key_at bytes place) (get_or order k d).place x (get_or order at d).place ≡ false) (has_key d) (behind k d less same))

  pub first_is : (found : ℕ) → ((d : Marked) → (get_or order at d).place ≡ found) → IsFirst bytes order place (found == place)
  first_is found there = go (found == place) refl
    where
      go : (b : Bool) → (found == place) ≡ b → IsFirst bytes order place b
      go true e = λ k d less same. let low = least k d less same in let is = there d in let one = eqb-true found place e in omega (arith, low, is, one)
      go false e = record {
        at = at;
        inside = inside (record { mark = 0; place = 0 });
        same = has_key;
        earlier = λ d.
            let low = least stands.at d stands.inside (own d) in
            let is = there d in
            let last = stands.is d in
            let other = eqb-false found place e in
            elim (cases_lt (get_or order at d).place place) [ inl less ↦ less | inr more ↦ absurd (other (omega (arith, low, is, last, more))) ];
      }
