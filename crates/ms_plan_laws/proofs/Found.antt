-- What assets hold beside a table: signatures that are found and held, and signatures of estimated lengths.
use Rattle.std.proofs.Common.{◌≡◌, ℕ, zero, suc, ◌≤◌, List, [], ◌∷◌, length, map, replicate, find, Contains, Option, Some, None, IsSome, refl, sym, ◌∙◌, ap, subst, inl, inr, arith}
use Rattle.std.specs.Option.{option_map}
use Rattle.std.specs.List.{IsDistinct}
use Rattle.std.specs.Str.{bytes_eq}
use Rattle.std.proofs.lemmas.Bool.{false≢true, cases_Bool}
use Rattle.std.proofs.lemmas.List.{length-replicate}
use Rattle.std.proofs.lemmas.List.Elements.{All-map}
use Rattle.def_script.specs.Bytes.{Bytes, IsBytes}
use Rattle.def_script.specs.Signature.{MAX_SIGNATURE_SIZE}
use Rattle.def_machine.specs.declared.Locks.{Locks}
use Rattle.def_machine.specs.Stacks.{Pairs}
use Rattle.def_tree.specs.Tree.{Key}
use Rattle.def_tree.specs.Range.{IsKey}
use Rattle.def_assets.specs.Assets.{Assets, IsSignature, sig_of}
use Rattle.def_assets.proofs.Shortest.{found_is_held}
use Rattle.def_assets.proofs.Distinct.{distinct_pairs, distinct_keys, first_is_shortest}
use Rattle.def_plan.specs.Lengths.{Lengths, AreLengths, length_of, IsLike, IsEstimate}
use Rattle.def_plan.specs.Laws.{EstimateExists}
use Rattle.ms_plan_laws.proofs.Moved.{with_pairs}

-- what is found
pub some_or_none : {A : Type 0} (o : Option A) → IsSome o → (x : A) × (o ≡ Some x)
some_or_none None h = absurd (false≢true h)
some_or_none (Some x) h = (x, refl)

pub some_is : {A : Type 0} (o : Option A) (x : A) → o ≡ Some x → IsSome o
some_is o x h = rw h refl

pub held_of : (assets : Assets) (key sig : Bytes) → sig_of assets key ≡ Some sig → Contains assets.pairs (key, sig)
held_of assets key sig h = found_is_held assets.pairs key sig h

-- an estimate has the estimated lengths
abbrev lengths_of : Pairs → Lengths
lengths_of pairs = map (λ pair. (pair.0, length pair.1)) pairs

lengths_keys : (pairs : Pairs) → map (λ entry. entry.0) (lengths_of pairs) ≡ map (λ pair. pair.0) pairs
lengths_keys [] = refl
lengths_keys (pair ∷ pairs) = ap (λ ks. pair.0 ∷ ks) (lengths_keys pairs)

length_found : (pairs : Pairs) (key : Key) → length_of (lengths_of pairs) key ≡ option_map length (option_map (λ pair. pair.1) (find (λ pair. bytes_eq pair.0 key) pairs))
length_found [] key = refl
length_found (pair ∷ pairs) key = elim (cases_Bool (bytes_eq pair.0 key)) [ inl e ↦ rw e refl | inr e ↦ rw e (length_found pairs key) ]

pub length_is : (assets : Assets) (table : Lengths) → AreLengths table → (other : Assets) → IsEstimate assets table other → (key : Key) →
    length_of table key ≡ option_map length (sig_of other key)
length_is assets table lengths other estimate key =
    let distinct : IsDistinct bytes_eq (map (λ pair. pair.0) other.pairs) =
    subst (IsDistinct bytes_eq) (ap (map (λ entry. entry.0)) (sym estimate.lengths) ∙ lengths_keys other.pairs) lengths.distinct in
    ap (λ t. length_of t key) (sym estimate.lengths) ∙ length_found other.pairs key
    ∙ ap (option_map length) (sym (first_is_shortest other.pairs (distinct_keys other.pairs distinct) key))

-- the same assets but for the signatures
pub like_with : (assets other : Assets) → IsLike assets other → other ≡ with_pairs assets other.pairs
like_with assets other like = go other.locks other.preimages like.locks like.preimages
  where
    go : (l : Locks) (p : List Bytes) → l ≡ assets.locks → p ≡ assets.preimages → record { locks = l; pairs = other.pairs; preimages = p } ≡ with_pairs assets other.pairs
    go l p e f = rw (e, f) refl

pub like_both : (assets one other : Assets) → IsLike assets one → IsLike assets other → IsLike one other
like_both assets one other h k = record { locks = k.locks ∙ sym h.locks; preimages = k.preimages ∙ sym h.preimages }

-- signatures of zeros
zero_bytes : (n : ℕ) → IsBytes (replicate n 0)
zero_bytes zero i = omega arith
zero_bytes (suc n) zero = omega arith
zero_bytes (suc n) (suc i) = zero_bytes n i

zero_signature : (n : ℕ) → (1 ≤ n) × (n ≤ MAX_SIGNATURE_SIZE) → IsSignature (replicate n 0)
zero_signature n h = record {
  some = rw (length-replicate {A = ℕ} n 0) h.0;
  few = rw (length-replicate {A = ℕ} n 0) h.1;
  bytes = zero_bytes n;
}

abbrev zeros_of : Lengths → Pairs
zeros_of table = map (λ entry. (entry.0, replicate entry.1 0)) table

zeros_long : (table : Lengths) → lengths_of (zeros_of table) ≡ table
zeros_long [] = refl
zeros_long (entry ∷ table) = ap (λ n. (entry.0, n) ∷ lengths_of (zeros_of table)) (length-replicate {A = ℕ} entry.1 0) ∙ ap (λ t. entry ∷ t) (zeros_long table)

zeros_keys : (table : Lengths) → map (λ entry. entry.0) table ≡ map (λ pair. pair.0) (zeros_of table)
zeros_keys [] = refl
zeros_keys (entry ∷ table) = ap (λ t. entry.0 ∷ t) (zeros_keys table)

pub estimate_exists : EstimateExists
estimate_exists assets table are lengths = (
  record { like = record { locks = refl; preimages = refl }; lengths = zeros_long table },
  record {
    keys = All-map (λ pair. IsKey pair.0) (λ entry. (entry.0, replicate entry.1 0)) table lengths.keys;
    signatures = All-map (λ pair. IsSignature pair.1) (λ entry. (entry.0, replicate entry.1 0)) table (λ i d h. zero_signature _ (lengths.some i d h, lengths.short i d h));
    distinct = distinct_pairs (zeros_of table) (distinct_keys (zeros_of table) (subst (IsDistinct bytes_eq) (zeros_keys table) lengths.distinct));
    preimages = are.preimages;
    version = are.version;
    sequence = are.sequence;
    locktime = are.locktime;
  },
)
