-- The signatures of a `multi`: the first of least weight over all sets of keys.
use Rattle.std.proofs.Common.{◌≡◌, ℕ, zero, suc, false, List, [], ◌∷◌, ◌++◌, length, reverse, Option, Some, None, refl, sym, ◌∙◌, ap, subst, ◌⊎◌, inl, inr, IsTrue, arith}
use Rattle.std.proofs.lemmas.List.{map-append, length-append, reverse-append}
use Rattle.std.proofs.lemmas.Option.{none-some, same_Some}
use Rattle.def_script.specs.Bytes.{Bytes}
use Rattle.def_machine.specs.Stacks.{Stack, Checker, member}
use Rattle.def_machine.specs.MultiSig.{is_good}
use Rattle.def_tree.specs.Tree.{Key}
use Rattle.def_assets.specs.Assets.{Assets, AreAssets, sig_of}
use Rattle.def_script.specs.Witness.{weight}
use Rattle.def_satisfaction.specs.StackSet.{StackSet, Both, Either}
use Rattle.def_satisfaction.specs.Rows.{AreSignatures, Signatures, Signature}
use Rattle.def_satisfaction.specs.Satisfaction.{canonical}
use Rattle.def_choice.specs.Sets.{sets}
use Rattle.def_choice.specs.Least.{item, both, lighter}
use Rattle.def_choice.specs.Lightest.{IsLightest}
use Rattle.def_choice.specs.Cheapest.{signatures_of, signatures}
use Rattle.def_choice.proofs.Best.{none_best, one_best, best_as, best_both, best_lighter}
use Rattle.def_choice.proofs.Counted.{least-append, least-map_map, least-below}
use Rattle.def_satisfaction.proofs.Held.{held_is_good, good_is_held}

-- the signature of a key is the lightest
signature_of : (assets : Assets) → AreAssets assets → (key : Key) (held : Option Bytes) → sig_of assets key ≡ held → IsLightest (Signature (canonical assets) key) (item held)
signature_of assets are key None h =
    none_best (Signature (canonical assets) key) (λ w s. let held = good_is_held assets key s.0 s.1 in none-some held.0 (sym h ∙ held.1))
signature_of assets are key (Some sig) h = record {
  is = λ w e. (sig, held_is_good assets are key sig h, sym (same_Some (sig ∷ []) w e));
  lightest = λ w s.
      let held = good_is_held assets key s.0 s.1 in
      let same : length held.0 ≡ length sig = ap length (same_Some held.0 sig (sym held.1 ∙ h)) in
      let whole : weight w ≡ weight (s.0 ∷ []) = ap weight s.2 in
      let short = held.2 in
      (sig ∷ [], refl, omega (arith, same, whole, short));
}

pub signature_best : (assets : Assets) → AreAssets assets → (key : Key) → IsLightest (Signature (canonical assets) key) (item (sig_of assets key))
signature_best assets are key = signature_of assets are key (sig_of assets key) refl

-- a further key, which is passed over
passed : (checker : Checker) (key : Key) (keys : List Key) (sigs : Stack) → AreSignatures checker keys sigs → AreSignatures checker (key ∷ keys) sigs
passed checker key keys [] h = tt
passed checker key keys (sig ∷ sigs) h = inr h

-- one more key behind the others
record LastSigned (checker : Checker) (keys : List Key) (key : Key) (sigs : Stack) : Type 0 where
  rest : Stack
  sig : Bytes
  good : IsTrue (is_good checker key sig)
  before : AreSignatures checker keys rest
  whole : sigs ≡ rest ++ sig ∷ []

last_or_not : (checker : Checker) (keys : List Key) (key : Key) (sigs : Stack) → AreSignatures checker (keys ++ key ∷ []) sigs →
    AreSignatures checker keys sigs ⊎ LastSigned checker keys key sigs
last_or_not checker keys key [] h = inl h
last_or_not checker [] key (sig ∷ []) (inl h) = inr (record { rest = []; sig = sig; good = h.0; before = tt; whole = refl })
last_or_not checker [] key (sig ∷ g ∷ sigs) (inl h) = absurd h.1
last_or_not checker [] key (sig ∷ sigs) (inr h) = absurd h
last_or_not checker (k ∷ keys) key (sig ∷ sigs) (inl h) =
    elim (last_or_not checker keys key sigs h.1) [
      | inl i ↦ inl (inl (h.0, i))
      | inr l ↦ inr (record { rest = sig ∷ l.rest; sig = l.sig; good = l.good; before = inl (h.0, l.before); whole = ap (λ v. sig ∷ v) l.whole })
    ]
last_or_not checker (k ∷ keys) key (sig ∷ sigs) (inr h) =
    elim (last_or_not checker keys key (sig ∷ sigs) h) [
      | inl i ↦ inl (inr i)
      | inr l ↦ inr (record { rest = l.rest; sig = l.sig; good = l.good; before = passed checker k keys l.rest l.before; whole = l.whole })
    ]

with_last : (checker : Checker) (keys : List Key) (key : Key) (sigs : Stack) (sig : Bytes) → IsTrue (is_good checker key sig) → AreSignatures checker keys sigs →
    AreSignatures checker (keys ++ key ∷ []) (sigs ++ sig ∷ [])
with_last checker [] key [] sig good h = inl (good, tt)
with_last checker [] key (g ∷ sigs) sig good h = absurd h
with_last checker (k ∷ keys) key [] sig good h = inr (with_last checker keys key [] sig good tt)
with_last checker (k ∷ keys) key (g ∷ sigs) sig good (inl h) = inl (h.0, with_last checker keys key sigs sig good h.1)
with_last checker (k ∷ keys) key (g ∷ sigs) sig good (inr h) = inr (with_last checker keys key (g ∷ sigs) sig good h)

pub without_last : (checker : Checker) (keys : List Key) (key : Key) (sigs : Stack) → AreSignatures checker keys sigs → AreSignatures checker (keys ++ key ∷ []) sigs
without_last checker keys key [] h = tt
without_last checker [] key (g ∷ sigs) h = absurd h
without_last checker (k ∷ keys) key (g ∷ sigs) (inl h) = inl (h.0, without_last checker keys key sigs h.1)
without_last checker (k ∷ keys) key (g ∷ sigs) (inr h) = inr (without_last checker keys key (g ∷ sigs) h)

no_signatures : (checker : Checker) (keys : List Key) (sigs : Stack) → length sigs ≡ 0 → AreSignatures checker keys sigs
no_signatures checker keys [] h = tt
no_signatures checker keys (sig ∷ sigs) h = absurd (omega arith)

no_key : (checker : Checker) (k : ℕ) (sigs : Stack) → length sigs ≡ suc k → AreSignatures checker [] sigs → ⊥
no_key checker k [] h are = omega arith
no_key checker k (sig ∷ sigs) h are = are

empty_is : (sigs : Stack) → length sigs ≡ 0 → sigs ≡ []
empty_is [] h = refl
empty_is (sig ∷ sigs) h = absurd (omega arith)

-- the keys in the order in which their signatures stand, the top first
turned : (key : Key) (keys : List Key) → reverse (key ∷ keys) ≡ reverse keys ++ key ∷ []
turned key keys = reverse-append (key ∷ []) keys

module _ (assets : Assets) (are : AreAssets assets) where
  abbrev S : (k : ℕ) → List Key → StackSet
  S k keys = Signatures (canonical assets) k keys

  none_to : (key : Key) (keys : List Key) (w : Stack) → S 0 keys w → S 0 (key ∷ keys) w
  none_to key keys w h = (h.0, no_signatures (member assets.pairs) (reverse (key ∷ keys)) w h.0)

  none_from : (key : Key) (keys : List Key) (w : Stack) → S 0 (key ∷ keys) w → S 0 keys w
  none_from key keys w h = (h.0, no_signatures (member assets.pairs) (reverse keys) w h.0)

  more_to : (k : ℕ) (key : Key) (keys : List Key) (w : Stack) → Either (Both (Signature (canonical assets) key) (S k keys)) (S (suc k) keys) w → S (suc k) (key ∷ keys) w
  more_to k key keys w (inl (below, above, s, h, e)) =
      let whole : w ≡ above ++ s.0 ∷ [] = e ∙ ap (λ v. above ++ v) s.2 in
      let long : length w ≡ length (above ++ s.0 ∷ []) = ap length whole in (
        omega (arith, h.0, long, length-append above (s.0 ∷ [])),
        rw (turned key keys, whole) (with_last (member assets.pairs) (reverse keys) key above s.0 s.1 h.1),
      )
  more_to k key keys w (inr h) = (h.0, rw (turned key keys) (without_last (member assets.pairs) (reverse keys) key w h.1))

  more_from : (k : ℕ) (key : Key) (keys : List Key) (w : Stack) → S (suc k) (key ∷ keys) w → Either (Both (Signature (canonical assets) key) (S k keys)) (S (suc k) keys) w
  more_from k key keys w h =
      elim (last_or_not (member assets.pairs) (reverse keys) key w (subst (λ ks. AreSignatures (member assets.pairs) ks w) (turned key keys) h.1)) [
        | inl i ↦ inr (h.0, i)
        | inr l ↦
            let long : length w ≡ length (l.rest ++ l.sig ∷ []) = ap length l.whole in
            inl (l.sig ∷ [], l.rest, (l.sig, l.good, refl), (omega (arith, h.0, long, length-append l.rest (l.sig ∷ [])), l.before), l.whole)
      ]

  pub keys_best : (keys : List Key) (k : ℕ) → IsLightest (S k keys) (signatures assets k keys)
  keys_best [] zero = one_best (S zero []) [] (refl, tt) (λ v h. empty_is v h.0)
  keys_best [] (suc k) = none_best (S (suc k) []) (λ w h. no_key (member assets.pairs) k w h.0 h.1)
  keys_best (key ∷ keys) zero =
      let e : signatures assets zero (key ∷ keys) ≡ signatures assets zero keys = least-map_map (signatures_of assets (key ∷ keys)) (λ set. false ∷ set) (sets (length keys) zero) in
      rw e (best_as (S zero keys) (S zero (key ∷ keys)) (signatures assets zero keys) (none_to key keys) (none_from key keys) (keys_best keys zero))
  keys_best (key ∷ keys) (suc k) =
      let e : signatures assets (suc k) (key ∷ keys) ≡ lighter (both (item (sig_of assets key)) (signatures assets k keys)) (signatures assets (suc k) keys) =
      simp (map-append, least-append, least-map_map, least-below)
      in
      rw e
      (best_as _ (S (suc k) (key ∷ keys)) _ (more_to k key keys) (more_from k key keys)
      (best_lighter (Both (Signature (canonical assets) key) (S k keys)) (S (suc k) keys) _ _
      (best_both (Signature (canonical assets) key) (S k keys) _ _ (signature_best assets are key) (keys_best keys k))
      (keys_best keys (suc k))))
