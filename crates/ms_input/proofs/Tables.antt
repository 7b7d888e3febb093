-- The lengths of the signatures of a sane tree's keys are a table that a plan can be made by.
use Rattle.std.proofs.Common.{◌≡◌, ℕ, suc, ◌≤◌, false, slice_index_or, List, [], ◌∷◌, ◌++◌, length, map, All, Contains, Some, None, Option, inl, inr, refl, sym, ap, subst, arith}
use Rattle.std.specs.List.{IsDistinct, AllByRecursion}
use Rattle.std.specs.Str.{bytes_eq}
use Rattle.std.proofs.lemmas.Bool.{cases_Bool}
use Rattle.std.proofs.lemmas.List.Elements.{All-nil, All-cons, All-append, All-contains, All-map}
use Rattle.std.proofs.lemmas.Slice.Eq.{bytes_eq-Decides}
use Rattle.std.proofs.Math.ListN.{length-map}
use Rattle.def_script.specs.Bytes.{Bytes}
use Rattle.def_script.specs.Signature.{MAX_SIGNATURE_SIZE}
use Rattle.def_tree.specs.Tree.{Key, Tree, Trees, just_0, just_1, pk_k, pk_h, older, after, hash, and_or, two, thresh, multi, wrap, none, more}
use Rattle.def_tree.specs.Range.{IsKey, IsWritable, AreWritable}
use Rattle.def_assets.specs.Assets.{Assets, AreAssets, IsSignature, sig_of}
use Rattle.def_assets.proofs.Shortest.{found_is_held}
use Rattle.def_sane.specs.Keys.{keys, keys_of_all, AreDistinct}
use Rattle.def_sane.specs.Unfit.{IsSane}
use Rattle.def_sane.proofs.Meanings.{sane_means}
use Rattle.def_plan.specs.Lengths.{AreLengths}
use Rattle.def_spend.specs.Asking.{length_by, lengths_of}
use Rattle.ms_input.specs.Scaffolding.Lengths.{entry_of}
use Rattle.ms_input.proofs.KeyCount.{few_keys}

-- a signature that is found has its length
pub found_length : (assets : Assets) (key sig : Bytes) → AreAssets assets → sig_of assets key ≡ Some sig → IsSignature sig
found_length assets key sig held is =
    All-contains (λ pair. IsSignature pair.1) assets.pairs (key, sig) held.signatures (found_is_held assets.pairs key sig is)

abbrev IsLength : ℕ → Type 0
IsLength n = (1 ≤ n) × (n ≤ MAX_SIGNATURE_SIZE)

pub length_fits : (assets : Assets) (key : Key) → AreAssets assets → IsLength (length_by (sig_of assets key))
length_fits assets key held = go (sig_of assets key) refl
  where
    go : (o : Option Bytes) → sig_of assets key ≡ o → IsLength (length_by o)
    go None is = (omega arith, omega arith)
    go (Some sig) is = let fits = found_length assets key sig held is in (fits.some, fits.few)

-- ---- the keys of a tree

mutual
  are_keys : (t : Tree) → IsWritable t → All IsKey (keys t)
  are_keys just_0 w = All-nil IsKey
  are_keys just_1 w = All-nil IsKey
  are_keys (pk_k key) w = All-cons IsKey key [] w (All-nil IsKey)
  are_keys (pk_h key) w = All-cons IsKey key [] w (All-nil IsKey)
  are_keys (older n) w = All-nil IsKey
  are_keys (after n) w = All-nil IsKey
  are_keys (hash kind value) w = All-nil IsKey
  are_keys (and_or x y z) w = All-append IsKey (keys x ++ keys y) (keys z) (All-append IsKey (keys x) (keys y) (are_keys x w.0) (are_keys y w.1)) (are_keys z w.2)
  are_keys (two kind x y) w = All-append IsKey (keys x) (keys y) (are_keys x w.0) (are_keys y w.1)
  are_keys (thresh k xs) w = are_keys_of_all xs w.2
  are_keys (multi k own) w = w.2
  are_keys (wrap wrapper x) w = are_keys x w

  are_keys_of_all : (xs : Trees) → AreWritable xs → All IsKey (keys_of_all xs)
  are_keys_of_all none w = All-nil IsKey
  are_keys_of_all (more x xs) w = All-append IsKey (keys x) (keys_of_all xs) (are_keys x w.0) (are_keys_of_all xs w.1)

-- ---- keys that are distinct

differs : (key : Key) (ks : List Key) → ¬ Contains ks key → AllByRecursion (λ other. bytes_eq key other ≡ false) ks
differs key [] h = tt
differs key (other ∷ ks) h = (
  elim (cases_Bool (bytes_eq key other)) [
    | inl same ↦ absurd (h (0, omega arith, sym ((bytes_eq-Decides key other).0 same)))
    | inr not ↦ not
  ],
  differs key ks (λ c. h (suc c.0, omega (arith, c.1), c.2)),
)

distinct : (ks : List Key) → AreDistinct ks → IsDistinct bytes_eq ks
unfolding IsDistinct
distinct [] h = tt
distinct (key ∷ ks) h = (differs key ks h.0, distinct ks h.1)

-- ---- the table

firsts : (assets : Assets) (ks : List Key) → map (λ entry. entry.0) (map (entry_of assets) ks) ≡ ks
firsts assets [] = refl
firsts assets (key ∷ ks) = ap (λ rest. key ∷ rest) (firsts assets ks)

abbrev Of : Assets → (Key × ℕ → Type 0) → List Key → Type 0
Of assets P ks = All P (map (entry_of assets) ks)

all_entries : (assets : Assets) (P : Key × ℕ → Type 0) (ks : List Key) → ((key : Key) → IsKey key → P (entry_of assets key)) → All IsKey ks → Of assets P ks
all_entries assets P ks each h = All-map P (entry_of assets) ks (λ k d below. each (slice_index_or ks k d) (h k d below))

pub are_lengths : (tree : Tree) (assets : Assets) → IsWritable tree → IsSane tree → AreAssets assets → AreLengths (lengths_of tree assets)
are_lengths tree assets w sane held =
    let ks = keys tree in
    let are = are_keys tree w in
    let few = few_keys tree w sane in
    let long : length (map (entry_of assets) (keys tree)) ≡ length (keys tree) = length-map (keys tree) (entry_of assets) in
    record {
      few = omega (arith, few, long);
      keys = all_entries assets (λ entry. IsKey entry.0) ks (λ key is. is) are;
      distinct = subst (IsDistinct bytes_eq) (sym (firsts assets ks)) (distinct ks ((sane_means tree).0 sane).4);
      some = all_entries assets (λ entry. 1 ≤ entry.1) ks (λ key is. (length_fits assets key held).0) are;
      short = all_entries assets (λ entry. entry.1 ≤ MAX_SIGNATURE_SIZE) ks (λ key is. (length_fits assets key held).1) are;
    }
