-- What a sorted index finds is what its table holds.
use Rattle.std.proofs.Common.{◌≡◌, ℕ, zero, suc, ◌+◌, ◌&&◌, Bool, true, false, List, [], length, get_or, drop, All, Result, Ok, Err, is_ok, ⊎_elim, refl, sym, ap, ◌∙◌, arith, add-one}
use Rattle.std.proofs.Math.Seq.{drop-cons}
use Rattle.std.proofs.lemmas.Bool.{cases_lt}
use Rattle.std.proofs.lemmas.Cmp.{nat_list_cmp_total, on_total, then_total}
use Rattle.std.proofs.lemmas.List.{drop_all}
use Rattle.std.proofs.lemmas.List.Elements.{All-from_all_within}
use Rattle.std.proofs.lemmas.List.Folds.{list_any_at, list_any_none}
use Rattle.std.proofs.lemmas.List.Sorted.{list_any-IsPermutation, searchable_from_sorted}
use Rattle.std.proofs.lemmas.Map.Text.{is_eq-slice_cmp}
use Rattle.std.specs.Cmp.{IsTotalOrder}
use Rattle.std.specs.List.{list_any, range_with_len}
use Rattle.std.specs.List.Sorted.{IsSearchInRange, IsBinarySearchResult}
use Rattle.std.specs.Ordering.{ordering_then, is_eq}
use Rattle.std.specs.Str.{bytes_eq}
use Rattle.std.specs.declared.cmp.Ordering.{Ordering}
use Rattle.std.specs.declared.cmp.Ordering.TheVariants.{Less, Equal, Greater}
use Rattle.def_script.specs.Bytes.{Bytes}
use Rattle.def_machine.specs.Stacks.{Pairs, member}
use Rattle.ms_oracle.specs.Places.{pair_at}
use Rattle.ms_oracle.specs.Scaffolding.Index.{pair_cmp, IsIndex}

pub pair_cmp-total : IsTotalOrder pair_cmp
pair_cmp-total = then_total (on_total (λ (pair : Bytes × Bytes). pair.0) nat_list_cmp_total) (on_total (λ (pair : Bytes × Bytes). pair.1) nat_list_cmp_total)

then-is_eq : (first second : Ordering) → is_eq (ordering_then first second) ≡ (is_eq first && is_eq second)
then-is_eq Less second = refl
then-is_eq Equal second = refl
then-is_eq Greater second = refl

abbrev is_pair : Bytes → Bytes → Bytes × Bytes → Bool
is_pair key sig pair = bytes_eq pair.0 key && bytes_eq pair.1 sig

-- the order finds two pairs equal where their bytes are
is_eq-pair_cmp : (pair : Bytes × Bytes) (key sig : Bytes) → is_eq (pair_cmp pair (key, sig)) ≡ is_pair key sig pair
is_eq-pair_cmp pair key sig =
    rw (then-is_eq, is_eq-slice_cmp pair.0 key, is_eq-slice_cmp pair.1 sig) refl

-- a test of the elements at all places is one of all elements
any_place : {X : Type 0} (p : X → Bool) (xs : List X) (d : X) (n from : ℕ) → from + n ≡ length xs
    → list_any (λ place. p (get_or xs place d)) (range_with_len from n) ≡ list_any p (drop from xs)
any_place p xs d zero from whole = rw (drop_all from xs (omega arith)) refl
any_place p xs d (suc n) from whole =
    rw (drop-cons xs from d (omega arith), any_place p xs d n (from + 1) (omega arith), add-one) refl

module _ (table : Pairs) (order : List ℕ) (index : IsIndex table order) (key sig : Bytes) where
  abbrev rank : ℕ → Ordering
  rank place = pair_cmp (pair_at table place) (key, sig)

  abbrev is_here : ℕ → Bool
  is_here place = is_pair key sig (pair_at table place)

  any_here : list_any is_here order ≡ member table key sig
  any_here = sym (list_any-IsPermutation is_here _ order index.whole) ∙ any_place (is_pair key sig) table ([], []) (length table) 0 (omega arith)

  here : (place : ℕ) → rank place ≡ Equal → is_here place ≡ true
  here place same = sym (is_eq-pair_cmp (pair_at table place) key sig) ∙ ap is_eq same

  not_here : (place : ℕ) (rank_is : Ordering) → is_eq rank_is ≡ false → rank place ≡ rank_is → is_here place ≡ false
  not_here place rank_is other same = sym (is_eq-pair_cmp (pair_at table place) key sig) ∙ ap is_eq same ∙ other

  pub search_finds : (found : Result ℕ ℕ) → IsSearchInRange found (length order) → IsBinarySearchResult rank order found
      → is_ok found ≡ member table key sig
  search_finds (Ok at) inside same = sym (list_any_at is_here order at 0 inside (here _ (same 0))) ∙ any_here
  search_finds (Err gap) inside parts =
      let around = parts (searchable_from_sorted pair_cmp-total (pair_at table) order (key, sig) index.sorted) in
      let none : All (λ place. is_here place ≡ false) order = All-from_all_within (λ place. is_here place ≡ false) order
      (λ k d low high. ⊎_elim
      (λ below. not_here _ Less refl (around.0 k d low below))
      (λ above. not_here _ Greater refl (around.1 k d above high))
      (cases_lt k gap)) in
      sym (list_any_none is_here order none) ∙ any_here
