-- The generated assets are assets.
use Rattle.std.proofs.Common.{◌≡◌, ℕ, zero, suc, ◌+◌, ◌%◌, ◌≤◌, ◌<◌, false, List, [], ◌∷◌, All, map, replicate, slice_index_or, refl, sym, ap, subst, arith, lit<}
use Rattle.std.specs.List.{range_with_len, IsDistinct, AllByRecursion}
use Rattle.std.specs.Str.{bytes_eq}
use Rattle.std.proofs.lemmas.Bool.{ne_eqb}
use Rattle.std.proofs.lemmas.List.{length-replicate}
use Rattle.std.proofs.lemmas.List.Elements.{All-map}
use Rattle.std.proofs.lemmas.List.FromFn.{length-range_with_len, get_or-range_with_len}
use Rattle.def_script.specs.Bytes.{IsBytes}
use Rattle.def_machine.specs.Stacks.{Pairs}
use Rattle.def_tree.specs.Range.{IsKey}
use Rattle.def_assets.specs.Assets.{IsSignature, IsPreimage, same_pair}
use Rattle.def_assets.proofs.Distinct.{distinct_pairs, distinct_keys}
use Rattle.def_answer.specs.Generated.{generated_key, generated_sig, generated_preimage}
use Rattle.ms_answer_laws.specs.Laws.{GeneratedAreAssets}

-- ---- each of them

replicate-IsBytes : (n b : ℕ) → b < 256 → IsBytes (replicate n b)
replicate-IsBytes zero b h i = omega arith
replicate-IsBytes (suc n) b h zero = h
replicate-IsBytes (suc n) b h (suc i) = replicate-IsBytes n b h i

key_bytes : (i : ℕ) → i < 30 → IsBytes (generated_key i)
key_bytes i h zero = lit< tt
key_bytes i h (suc k) = replicate-IsBytes 32 (i + 1) (omega arith) k

key_is : (i : ℕ) → i < 30 → IsKey (generated_key i)
key_is i h = record { form = refl; bytes = key_bytes i h }

sig_is : (i : ℕ) → i < 30 → IsSignature (generated_sig i)
sig_is i h =
    let size = length-replicate (70 + i % 4) i in
    record { some = omega (arith, size); few = omega (arith, size); bytes = replicate-IsBytes (70 + i % 4) i (omega arith) }

preimage_is : (i : ℕ) → i < 30 → IsPreimage (generated_preimage i)
preimage_is i h = record { length = length-replicate 32 i; bytes = replicate-IsBytes 32 i (omega arith) }

-- what holds of each number of a range
all_in_range : (P : ℕ → Type 0) (n : ℕ) → n ≤ 30 → ((i : ℕ) → i < 30 → P i) → All P (range_with_len 0 n)
all_in_range P n few h k d in_range =
    let size = length-range_with_len 0 n in
    let here : slice_index_or (range_with_len 0 n) k d ≡ 0 + k = get_or-range_with_len 0 n k d (omega (arith, size)) in
    subst P (sym here) (h (0 + k) (omega (arith, size)))

-- ---- distinct keys

differs : (i j : ℕ) → i < j → bytes_eq (generated_key i) (generated_key j) ≡ false
differs i j h = rw (ne_eqb (i + 1) (j + 1) (λ same. omega (arith, same, h)))

all_differ : (i a n : ℕ) → i < a → AllByRecursion (λ key. bytes_eq (generated_key i) key
    ≡ false) (map generated_key (range_with_len a n))
all_differ i a zero h = tt
all_differ i a (suc n) h = (differs i a h, all_differ i (a + 1) n (omega arith))

keys_distinct : (a n : ℕ) → IsDistinct bytes_eq (map generated_key (range_with_len a n))
unfolding IsDistinct
keys_distinct a zero = tt
keys_distinct a (suc n) = (all_differ a (a + 1) n (omega arith), keys_distinct (a + 1) n)

abbrev pairs_of : List ℕ → Pairs
pairs_of is = map (λ i. (generated_key i, generated_sig i)) is

firsts : (is : List ℕ) → map generated_key is ≡ map (λ pair. pair.0) (pairs_of is)
firsts [] = refl
firsts (i ∷ is) = ap (λ ks. generated_key i ∷ ks) (firsts is)

pairs_distinct : (a n : ℕ) → IsDistinct same_pair (pairs_of (range_with_len a n))
pairs_distinct a n =
    let pairs = pairs_of (range_with_len a n) in
    distinct_pairs pairs (distinct_keys pairs (subst (IsDistinct bytes_eq) (firsts (range_with_len a n)) (keys_distinct a n)))

pub generated_are_assets : GeneratedAreAssets
generated_are_assets n few = record {
  keys = All-map (λ pair. IsKey pair.0) (λ i. (generated_key i, generated_sig i)) (range_with_len 0 n) (all_in_range (λ i. IsKey (generated_key i)) n few key_is);
  signatures = All-map (λ pair. IsSignature pair.1) (λ i. (generated_key i, generated_sig i)) (range_with_len 0 n) (all_in_range (λ i. IsSignature (generated_sig i)) n few sig_is);
  distinct = pairs_distinct 0 n;
  preimages = All-map IsPreimage generated_preimage (range_with_len 0 n) (all_in_range (λ i. IsPreimage (generated_preimage i)) n few preimage_is);
  version = lit< tt;
  sequence = lit< tt;
  locktime = lit< tt;
}
