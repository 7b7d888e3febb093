-- What assets hold: the signature of a key is one, and no longer than any other; a known preimage is one.
use Rattle.std.proofs.Common.{◌≡◌, ◌≤◌, true, false, ◌&&◌, not, List, [], ◌∷◌, length, Contains, Some, refl, ◌∙◌, ap, subst, inl, inr, All, arith, if◌then◌else◌}
use Rattle.std.specs.List.{find}
use Rattle.std.specs.Str.{bytes_eq}
use Rattle.std.proofs.lemmas.Slice.Eq.{bytes_eq-Decides}
use Rattle.std.proofs.lemmas.List.Elements.{All-contains, All-head, All-tail, Contains-append_right}
use Rattle.std.proofs.lemmas.Option.{none-some, same_Some}
use Rattle.std.proofs.lemmas.Bool.{false≢true, and_parts, or_cases, or_right, cases_Bool}
use Rattle.def_hash.specs.declared.HashKind.{HashKind}
use Rattle.def_hash.specs.Hash.{digest_of}
use Rattle.def_script.specs.Bytes.{Bytes}
use Rattle.def_machine.specs.Stacks.{Pairs, member, is_empty}
use Rattle.def_machine.specs.MultiSig.{is_good}
use Rattle.def_assets.specs.Assets.{Assets, AreAssets, IsSignature, IsPreimage, sig_of, known}
use Rattle.def_assets.proofs.Shortest.{no_pair, first_or_later, found_is_held, held_is_found}

-- a pair that is held is among the pairs
member_in : (pairs : Pairs) (key sig : Bytes) → member pairs key sig ≡ true → Contains pairs (key, sig)
member_in [] key sig h = absurd (false≢true h)
member_in (pair ∷ pairs) key sig h =
    elim (or_cases (bytes_eq pair.0 key && bytes_eq pair.1 sig) (member pairs key sig) h) [
      | inl a ↦
          let p = and_parts (bytes_eq pair.0 key) (bytes_eq pair.1 sig) a in
          (0, omega arith, ap (λ x. (x, pair.1)) ((bytes_eq-Decides pair.0 key).0 p.0) ∙ ap (λ x. (key, x)) ((bytes_eq-Decides pair.1 sig).0 p.1))
      | inr a ↦ Contains-append_right (pair ∷ []) pairs (key, sig) (member_in pairs key sig a)
    ]

in_member : (pairs : Pairs) (key sig : Bytes) → Contains pairs (key, sig) → member pairs key sig ≡ true
in_member [] key sig h = absurd (no_pair (key, sig) h)
in_member (pair ∷ pairs) key sig h =
    elim (first_or_later pair pairs (key, sig) h) [
      | inl e ↦
          rw ((bytes_eq-Decides pair.0 key).1 (ap (λ p. p.0) e), (bytes_eq-Decides pair.1 sig).1 (ap (λ p. p.1) e)) refl
      | inr i ↦ or_right (bytes_eq pair.0 key && bytes_eq pair.1 sig) (member pairs key sig) (in_member pairs key sig i)
    ]

filled : (sig : Bytes) → 1 ≤ length sig → is_empty sig ≡ false
filled [] h = absurd (omega arith)
filled (b ∷ sig) h = refl

-- the signature of a key is good with it, and beside each that is good with the key it is no longer
pub held_is_good : (assets : Assets) → AreAssets assets → (key sig : Bytes) → sig_of assets key ≡ Some sig → is_good (member assets.pairs) key sig ≡ true
held_is_good assets are key sig h =
    let i = found_is_held assets.pairs key sig h in
    let s : IsSignature sig = All-contains (λ pair. IsSignature pair.1) assets.pairs (key, sig) are.signatures i in
    rw (filled sig s.some, in_member assets.pairs key sig i) refl

good_in : (assets : Assets) (key sig : Bytes) → is_good (member assets.pairs) key sig ≡ true → Contains assets.pairs (key, sig)
good_in assets key sig h = member_in assets.pairs key sig (and_parts (not (is_empty sig)) (member assets.pairs key sig) h).1

pub good_is_held : (assets : Assets) (key sig : Bytes) → is_good (member assets.pairs) key sig ≡ true → (held : Bytes) × (sig_of assets key ≡ Some held) × (length held ≤ length sig)
good_is_held assets key sig h = held_is_found assets.pairs key sig (good_in assets key sig h)

pub good_is_signature : (assets : Assets) → AreAssets assets → (key sig : Bytes) → is_good (member assets.pairs) key sig ≡ true → IsSignature sig
good_is_signature assets are key sig h = All-contains (λ pair. IsSignature pair.1) assets.pairs (key, sig) are.signatures (good_in assets key sig h)

-- a known preimage is one
known_of : (kind : HashKind) (value : Bytes) (preimages : List Bytes) (x : Bytes) → All IsPreimage preimages →
    find (λ preimage. bytes_eq (digest_of kind preimage) value) preimages ≡ Some x → IsPreimage x × (digest_of kind x ≡ value)
known_of kind value [] x all h = absurd (none-some x h)
known_of kind value (p ∷ ps) x all h =
    let k : (if bytes_eq (digest_of kind p) value then Some p else find (λ preimage. bytes_eq (digest_of kind preimage) value) ps) ≡ Some x = h in
    elim (cases_Bool (bytes_eq (digest_of kind p) value)) [
      | inl e ↦
          subst (λ y. IsPreimage y × (digest_of kind y ≡ value)) (same_Some p x (rw e at k))
          (All-head IsPreimage p ps all, (bytes_eq-Decides (digest_of kind p) value).0 e)
      | inr e ↦ known_of kind value ps x (All-tail IsPreimage p ps all) (rw e at k)
    ]

pub known_is_preimage : (assets : Assets) → AreAssets assets → (kind : HashKind) (value x : Bytes) → known assets kind value ≡ Some x → IsPreimage x × (digest_of kind x ≡ value)
known_is_preimage assets are kind value x h = known_of kind value assets.preimages x are.preimages h
