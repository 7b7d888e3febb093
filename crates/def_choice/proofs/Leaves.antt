-- Right choices for the fragments without children.
use Rattle.std.proofs.Common.{◌≡◌, Bool, true, false, [], ◌∷◌, Option, Some, None, refl, sym, ◌∙◌, ap, subst, inl, inr, IsTrue, if◌then◌else◌}
use Rattle.std.specs.Str.{bytes_eq}
use Rattle.std.proofs.lemmas.Slice.Eq.{bytes_eq-Decides}
use Rattle.std.proofs.lemmas.Option.{none-some, same_Some}
use Rattle.std.proofs.lemmas.Bool.{false≢true}
use Rattle.def_hash.specs.declared.HashKind.{HashKind}
use Rattle.def_hash.specs.Hash.{digest_of}
use Rattle.def_script.specs.Bytes.{Bytes}
use Rattle.def_machine.specs.Stacks.{Stack}
use Rattle.def_tree.specs.Tree.{Key}
use Rattle.def_tree.specs.Range.{IsKey}
use Rattle.def_assets.specs.Assets.{Assets, AreAssets, sig_of, known}
use Rattle.def_satisfaction.specs.StackSet.{StackSet, Never, Nothing, Is, If, Both, Either}
use Rattle.def_satisfaction.specs.Rows.{EMPTY, ZEROS, NotCanonical, IsNoPreimageOf, Signature, hash_row, pk_h_row, WithHashOf}
use Rattle.def_satisfaction.specs.Satisfaction.{canonical}
use Rattle.def_choice.specs.Least.{item, both}
use Rattle.def_choice.specs.Lightest.{IsLightest}
use Rattle.def_choice.proofs.Best.{none_best, one_best, best_as, best_both}
use Rattle.def_satisfaction.proofs.Held.{known_is_preimage}
use Rattle.def_choice.proofs.Keys.{signature_best}

pub never_best : IsLightest Never None
never_best = none_best Never (λ w h. h)

pub nothing_best : IsLightest Nothing (Some [])
nothing_best = one_best Nothing [] refl (λ v h. h)

pub is_best : (x : Bytes) → IsLightest (Is x) (Some (x ∷ []))
is_best x = one_best (Is x) (x ∷ []) refl (λ v h. h)

-- a lock
pub lock_best : (holds : Bool) → IsLightest (If (IsTrue holds) Nothing) (if holds then Some [] else None)
lock_best true = one_best (If (IsTrue true) Nothing) [] (refl, refl) (λ v h. h.1)
lock_best false = none_best (If (IsTrue false) Nothing) (λ w h. false≢true h.0)

-- what isn't canonical adds nothing
pub canonical_best : (assets : Assets) (P Q : StackSet) (m : Option Stack) → IsLightest P m → IsLightest (Either P (NotCanonical (canonical assets) Q)) m
canonical_best assets P Q m = best_as P (Either P (NotCanonical (canonical assets) Q)) m (λ w h. inl h) (λ w h. elim h [ inl i ↦ i | inr i ↦ absurd (false≢true i.0) ])

pub no_canonical_best : (assets : Assets) (Q : StackSet) → IsLightest (NotCanonical (canonical assets) Q) None
no_canonical_best assets Q = none_best (NotCanonical (canonical assets) Q) (λ w h. false≢true h.0)

-- the key of a `pk_h`
module _ (assets : Assets) (key : Key) (form : IsKey key) where
  own_key_best : (P : Key → StackSet) (m : Option Stack) → IsLightest (P key) m → IsLightest (WithHashOf (canonical assets) key P) m
  own_key_best P m =
      best_as (P key) (WithHashOf (canonical assets) key P) m
      (λ w h. (key, form.form, refl, refl, h))
      (λ w h. subst (λ k. P k w) h.3 h.4)

  pub pk_h_dsat_best : IsLightest (pk_h_row (canonical assets) key).dsat (Some (key ∷ EMPTY ∷ []))
  pk_h_dsat_best = own_key_best (λ other. Both (Is EMPTY) (Is other)) _ (best_both (Is EMPTY) (Is key) _ _ (is_best EMPTY) (is_best key))

  pub pk_h_sat_best : AreAssets assets → IsLightest (pk_h_row (canonical assets) key).sat (both (item (sig_of assets key)) (Some (key ∷ [])))
  pk_h_sat_best are =
      own_key_best (λ other. Both (Signature (canonical assets) other) (Is other)) _
      (best_both (Signature (canonical assets) key) (Is key) _ _ (signature_best assets are key) (is_best key))

-- a hash
zeros_best : (kind : HashKind) (value : Bytes) (test : Bool) → bytes_eq (digest_of kind ZEROS) value ≡ test →
    IsLightest (If (IsNoPreimageOf kind value ZEROS) (Is ZEROS)) (if test then None else Some (ZEROS ∷ []))
zeros_best kind value true e =
    none_best (If (IsNoPreimageOf kind value ZEROS) (Is ZEROS)) (λ w h. h.0.1 ((bytes_eq-Decides (digest_of kind ZEROS) value).0 e))
zeros_best kind value false e =
    one_best (If (IsNoPreimageOf kind value ZEROS) (Is ZEROS)) (ZEROS ∷ [])
    ((refl, λ same. false≢true (sym e ∙ (bytes_eq-Decides (digest_of kind ZEROS) value).1 same)), refl) (λ v h. h.1)

pub hash_dsat_best : (assets : Assets) (kind : HashKind) (value : Bytes) →
    IsLightest (hash_row (canonical assets) kind value).dsat (if bytes_eq (digest_of kind ZEROS) value then None else Some (ZEROS ∷ []))
hash_dsat_best assets kind value = canonical_best assets _ _ _ (zeros_best kind value (bytes_eq (digest_of kind ZEROS) value) refl)

known_best : (assets : Assets) → AreAssets assets → (kind : HashKind) (value : Bytes) (held : Option Bytes) → known assets kind value ≡ held →
    IsLightest (hash_row (canonical assets) kind value).sat (item held)
known_best assets are kind value None e = none_best (hash_row (canonical assets) kind value).sat (λ w h. none-some h.0 (sym e ∙ h.1.1))
known_best assets are kind value (Some x) e =
    let k = known_is_preimage assets are kind value x e in
    let is = k.0 in
    one_best (hash_row (canonical assets) kind value).sat (x ∷ [])
    (x, ((is.length, k.1), e), refl)
    (λ v h. h.2 ∙ ap (λ y. y ∷ []) (same_Some h.0 x (sym h.1.1 ∙ e)))

pub hash_sat_best : (assets : Assets) → AreAssets assets → (kind : HashKind) (value : Bytes) →
    IsLightest (hash_row (canonical assets) kind value).sat (item (known assets kind value))
hash_sat_best assets are kind value = known_best assets are kind value (known assets kind value) refl
