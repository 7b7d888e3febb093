-- Where no element of a list is the same as an earlier one, its elements are distinct.
use Rattle.std.proofs.Common.{◌≡◌, ℕ, ◌+◌, Bool, true, false, not, ◌&&◌, ◌||◌, List, [], ◌∷◌, ◌++◌, None, refl, sym, ◌∙◌, ap, length, take, append_assoc, arith}
use Rattle.std.proofs.lemmas.Bool.{and_parts}
use Rattle.std.specs.List.{list_all, list_any, enumerate_from, IsDistinct, AllByRecursion}
use Rattle.std.specs.Str.{bytes_eq}
use Rattle.std.proofs.Math.Seq.{take-append_seam}
use Rattle.std.proofs.lemmas.List.{length-append}
use Rattle.std.proofs.lemmas.List.Folds.{list_any-append}
use Rattle.std.proofs.lemmas.Cmp.{nat_list_eq_equiv}
use Rattle.def_script.specs.Bytes.{Bytes}
use Rattle.def_machine.specs.Stacks.{Pairs}
use Rattle.def_assets.specs.Assets.{same_key, same_pair}
use Rattle.def_files.specs.declared.Format.{Format}
use Rattle.def_files.specs.declared.Format.TheVariants as formats
use Rattle.def_files.specs.Parts.{same_under}
use Rattle.def_files.specs.Refusals.{no_repeat}
use Rattle.def_files.proofs.Passing.{each_held}

-- the test that no element that is the same stands earlier
abbrev pub is_new : {A : Type 0} → (A → A → Bool) → List A → (ℕ × A) → Bool
is_new same xs entry = not (list_any (same entry.1) (take entry.0 xs))

neither : (a b : Bool) → (a || b) ≡ false → (a ≡ false) × (b ≡ false)
neither a b e = (grind arith, grind arith)

not_true : (b : Bool) → not b ≡ true → b ≡ false
not_true b e = grind arith

module _ {A : Type 0} (same : A → A → Bool) (symm : (x y : A) → same x y ≡ same y x) where
  -- an element differs from those before
  abbrev IsFree : (before : List A) → A → Type 0
  IsFree before x = list_any (same x) before ≡ false

  -- of elements that differ from those before and from one more, what they differ from
  split : (before : List A) (x : A) (xs : List A) → AllByRecursion (IsFree (before ++ x ∷ [])) xs
      → AllByRecursion (IsFree before) xs × AllByRecursion (λ y. same x y ≡ false) xs
  split before x [] h = (tt, tt)
  split before x (y ∷ xs) h =
      let parts = neither (list_any (same y) before) _ (sym (list_any-append (same y) before (x ∷ [])) ∙ h.0) in
      let one = neither (same y x) false parts.1 in
      let rest = split before x xs h.1 in
      ((parts.0, rest.0), (symm x y ∙ one.0, rest.1))

  free_after : (all before xs : List A) → all ≡ before ++ xs → list_all (is_new same all) (enumerate_from (length before) xs) ≡ true
      → AllByRecursion (IsFree before) xs × IsDistinct same xs
  unfolding IsDistinct
  free_after all before [] e h = (tt, tt)
  free_after all before (x ∷ xs) e h =
      let parts = and_parts (is_new same all (length before, x)) (list_all (is_new same all) (enumerate_from (length before + 1) xs)) h in
      let front : take (length before) all ≡ before = ap (take (length before)) e ∙ take-append_seam before (x ∷ xs) in
      let new : list_any (same x) (take (length before) all) ≡ false = not_true (list_any (same x) (take (length before) all)) parts.0 in
      let free : IsFree before x = rw front at new in
      let longer : length (before ++ x ∷ []) ≡ length before + 1 = length-append before (x ∷ []) in
      let whole : all ≡ (before ++ x ∷ []) ++ xs = e ∙ sym (append_assoc before (x ∷ []) xs) in
      let later : list_all (is_new same all) (enumerate_from (length (before ++ x ∷ [])) xs) ≡ true = rw longer parts.1 in
      let rest = free_after all (before ++ x ∷ []) xs whole later in
      let both = split before x xs rest.0 in
      ((free, both.0), (both.1, rest.1))

  pub distinct_elements : {E : Type 0} (fault : ℕ → E) (xs : List A) → no_repeat same fault xs ≡ None → IsDistinct same xs
  distinct_elements fault xs e = (free_after xs [] xs refl (each_held (is_new same xs) fault (enumerate_from 0 xs) e)).1

-- ---- byte strings and pairs

bytes_symm : (a b : Bytes) → bytes_eq a b ≡ bytes_eq b a
bytes_symm = nat_list_eq_equiv.symm

key_symm : (these those : Bytes × Bytes) → same_key these those ≡ same_key those these
key_symm these those = bytes_symm these.0 those.0

pair_symm : (these those : Bytes × Bytes) → same_pair these those ≡ same_pair those these
pair_symm these those =
    ap (λ b. b && bytes_eq these.1 those.1) (bytes_symm these.0 those.0) ∙ ap (λ b. bytes_eq those.0 these.0 && b) (bytes_symm these.1 those.1)

-- pairs whose keys differ differ
others : (pair : Bytes × Bytes) (pairs : Pairs) → AllByRecursion (λ other. same_key pair other ≡ false) pairs
    → AllByRecursion (λ other. same_pair pair other ≡ false) pairs
others pair [] h = tt
others pair (other ∷ pairs) h = (ap (λ b. b && bytes_eq pair.1 other.1) h.0, others pair pairs h.1)

pub distinct_by_keys : (pairs : Pairs) → IsDistinct same_key pairs → IsDistinct same_pair pairs
unfolding IsDistinct
distinct_by_keys [] h = tt
distinct_by_keys (pair ∷ pairs) h = (others pair pairs h.0, distinct_by_keys pairs h.1)

-- of keys none stands twice
pub distinct_keys : {E : Type 0} (fault : ℕ → E) (keys : List Bytes) → no_repeat bytes_eq fault keys ≡ None → IsDistinct bytes_eq keys
distinct_keys fault keys e = distinct_elements bytes_eq bytes_symm fault keys e

-- in either format no pair does
pub distinct_pairs : {E : Type 0} (fault : ℕ → E) (format : Format) (pairs : Pairs) → no_repeat (same_under format) fault pairs ≡ None
    → IsDistinct same_pair pairs
distinct_pairs fault formats.One pairs e = distinct_by_keys pairs (distinct_elements same_key key_symm fault pairs e)
distinct_pairs fault formats.Two pairs e = distinct_elements same_pair pair_symm fault pairs e
