-- Tables in which no key stands twice: no pair does, and the signature of a key is the one that stands with it.
use Rattle.std.proofs.Common.{◌≡◌, Bool, true, false, ◌&&◌, [], ◌∷◌, map, find, filter, Contains, Some, refl, sym, ◌∙◌, ap, inl, inr, if◌then◌else◌}
use Rattle.std.specs.List.{IsDistinct, AllByRecursion}
use Rattle.std.specs.Option.{option_map}
use Rattle.std.specs.Str.{bytes_eq}
use Rattle.std.proofs.lemmas.Bool.{false≢true}
use Rattle.std.proofs.lemmas.Slice.Eq.{bytes_eq-Decides}
use Rattle.def_script.specs.Bytes.{Bytes}
use Rattle.def_machine.specs.Stacks.{Pairs}
use Rattle.def_tree.specs.Tree.{Key}
use Rattle.def_assets.specs.Assets.{sigs_with, shorter, shortest, same_key, same_pair}
use Rattle.def_assets.specs.Laws.{OnlySignature}
use Rattle.def_assets.proofs.Shortest.{no_pair, first_or_later, found_is_held, held_is_found}

-- a pair that differs from all others in its key differs from them
other_pairs : (pair : Bytes × Bytes) (pairs : Pairs) → AllByRecursion (λ other. same_key pair other ≡ false) pairs → AllByRecursion (λ other. same_pair pair other ≡ false) pairs
other_pairs pair [] h = tt
other_pairs pair (other ∷ pairs) h = (ap (λ test. test && bytes_eq pair.1 other.1) h.0, other_pairs pair pairs h.1)

pub distinct_pairs : (pairs : Pairs) → IsDistinct same_key pairs → IsDistinct same_pair pairs
unfolding IsDistinct
distinct_pairs [] h = tt
distinct_pairs (pair ∷ pairs) h = (other_pairs pair pairs h.0, distinct_pairs pairs h.1)

-- where the keys are distinct
other_keys : (pair : Bytes × Bytes) (pairs : Pairs) → AllByRecursion (λ key. bytes_eq pair.0 key ≡ false) (map (λ p. p.0) pairs) → AllByRecursion (λ other. same_key pair other ≡ false) pairs
other_keys pair [] h = tt
other_keys pair (other ∷ pairs) h = (h.0, other_keys pair pairs h.1)

pub distinct_keys : (pairs : Pairs) → IsDistinct bytes_eq (map (λ pair. pair.0) pairs) → IsDistinct same_key pairs
unfolding IsDistinct
distinct_keys [] h = tt
distinct_keys (pair ∷ pairs) h = (other_keys pair pairs h.0, distinct_keys pairs h.1)

-- the key of a pair that differs from all others stands with no other signature
none_with : (pair : Bytes × Bytes) (pairs : Pairs) (key : Key) → pair.0 ≡ key → AllByRecursion (λ other. same_key pair other ≡ false) pairs → sigs_with pairs key ≡ []
none_with pair [] key same h = refl
none_with pair (other ∷ pairs) key same h = go (bytes_eq other.0 key) refl (none_with pair pairs key same h.1)
  where
    go : (test : Bool) → bytes_eq other.0 key ≡ test → sigs_with pairs key ≡ [] →
        map (λ p. p.1) (if test then other ∷ filter (λ p. bytes_eq p.0 key) pairs else filter (λ p. bytes_eq p.0 key) pairs) ≡ []
    go true e more = absurd (false≢true (sym h.0 ∙ (bytes_eq-Decides pair.0 other.0).1 (same ∙ sym ((bytes_eq-Decides other.0 key).0 e))))
    go false e more = more

-- the signature of a key is the first pair's
pub first_is_shortest : (pairs : Pairs) → IsDistinct same_key pairs → (key : Key) → shortest (sigs_with pairs key) ≡ option_map (λ pair. pair.1) (find (λ pair. bytes_eq pair.0 key) pairs)
unfolding IsDistinct
first_is_shortest [] h key = refl
first_is_shortest (pair ∷ pairs) h key = go (bytes_eq pair.0 key) refl (first_is_shortest pairs h.1 key)
  where
    go : (test : Bool) → bytes_eq pair.0 key ≡ test → shortest (sigs_with pairs key) ≡ option_map (λ p. p.1) (find (λ p. bytes_eq p.0 key) pairs) →
        shortest (map (λ p. p.1) (if test then pair ∷ filter (λ p. bytes_eq p.0 key) pairs else filter (λ p. bytes_eq p.0 key) pairs))
        ≡ option_map (λ p. p.1) (if test then Some pair else find (λ p. bytes_eq p.0 key) pairs)
    go true e more = ap (λ sigs. Some (shorter pair.1 (shortest sigs))) (none_with pair pairs key ((bytes_eq-Decides pair.0 key).0 e) h.0)
    go false e more = more

-- a key that differs from all others isn't held again
not_again : (pair : Bytes × Bytes) (pairs : Pairs) (key sig : Bytes) → pair.0 ≡ key → AllByRecursion (λ other. same_key pair other ≡ false) pairs → Contains pairs (key, sig) → ⊥
not_again pair [] key sig same h i = no_pair (key, sig) i
not_again pair (other ∷ pairs) key sig same h i =
    elim (first_or_later other pairs (key, sig) i) [
      | inl e ↦ false≢true (sym h.0 ∙ (bytes_eq-Decides pair.0 other.0).1 (same ∙ sym (ap (λ p. p.0) e)))
      | inr j ↦ not_again pair pairs key sig same h.1 j
    ]

-- of two signatures that are held with one key the one is the other
same_sig : (pairs : Pairs) → IsDistinct same_key pairs → (key one other : Bytes) → Contains pairs (key, one) → Contains pairs (key, other) → one ≡ other
unfolding IsDistinct
same_sig [] h key one other i j = absurd (no_pair (key, one) i)
same_sig (pair ∷ pairs) h key one other i j =
    elim (first_or_later pair pairs (key, one) i) [
      | inl e ↦ elim (first_or_later pair pairs (key, other) j) [
        | inl k ↦ ap (λ p. p.1) (sym e ∙ k)
        | inr l ↦ absurd (not_again pair pairs key other (ap (λ p. p.0) e) h.0 l)
      ]
      | inr k ↦ elim (first_or_later pair pairs (key, other) j) [
        | inl e ↦ absurd (not_again pair pairs key one (ap (λ p. p.0) e) h.0 k)
        | inr l ↦ same_sig pairs h.1 key one other k l
      ]
    ]

pub only_signature : OnlySignature
only_signature assets key sig distinct held =
    let found = held_is_found assets.pairs key sig held in
    found.1 ∙ ap Some (same_sig assets.pairs distinct key found.0 sig (found_is_held assets.pairs key found.0 found.1) held)
