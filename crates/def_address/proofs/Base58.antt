-- A text in Base58 has one list of bytes, and a list of bytes one text.
use Rattle.std.proofs.Common.{◌≡◌, ℕ, suc, ◌-◌, [], ◌∷◌, ◌++◌, length, take, drop, Bool, true, false, cond, arith, refl, sym, ap, subst, ◌∙◌, le-leb, lit<, length-append}
use Rattle.std.proofs.Math.Seq.{take-append_seam, drop-append_seam}
use Rattle.std.proofs.lemmas.Bool.{cond-true}
use Rattle.std.proofs.lemmas.List.{take-append-drop, length-take}
use Rattle.std.proofs.lemmas.Option.{option_and_then_some}
use Rattle.std.proofs.lemmas.Slice.Eq.{bytes_eq-Decides}
use Rattle.std.specs.Prelude.{nat_le, ◌&&◌, Option, Some, None}
use Rattle.std.specs.Option.{option_map, option_and_then}
use Rattle.std.specs.Str.{bytes_eq}
use Rattle.def_hash.specs.declared.HashKind.TheVariants.{Hash256}
use Rattle.def_hash.specs.Hash.{hash256}
use Rattle.def_hash.proofs.Lengths.{digest_has_its_length, digest_has_bytes}
use Rattle.def_script.specs.Bytes.{Bytes, IsBytes}
use Rattle.def_address.specs.Digits.{spelled, read_digits}
use Rattle.def_address.specs.Base58.{base58_alphabet, rebased, base58, read_base58, check_of, unchecked, base58_check, read_base58_check}
use Rattle.def_address.specs.Laws.{Base58CheckIsRead, Base58CheckIsOnly}
use Rattle.def_address.proofs.Digits.{Below, below_rebased, rebased_back, below_joined, below_front}
use Rattle.def_address.proofs.Texts.{Distinct, read_spelled, spelled_read}

pub below_bytes : (bytes : Bytes) → IsBytes bytes → Below 256 bytes
below_bytes [] h = tt
below_bytes (b ∷ bytes) h = (h 0, below_bytes bytes (λ i. h (suc i)))

-- ---- tests and options

pub and_parts : (a b : Bool) → (a && b) ≡ true → (a ≡ true) × (b ≡ true)
and_parts true b h = (refl, h)
and_parts false b h = absurd (cc)

pub cond_parts : {A : Type 0} (b : Bool) (x y : A) → cond b (Some x) None ≡ Some y → (b ≡ true) × (x ≡ y)
cond_parts true x y h = let same : x ≡ y = cc in (refl, same)
cond_parts false x y h = absurd (cc)

pub map_parts : {A B : Type 0} (f : A → B) (o : Option A) (y : B) → option_map f o ≡ Some y → (x : A) × (o ≡ Some x) × (f x ≡ y)
map_parts f (Some x) y h = let same : f x ≡ y = cc in (x, refl, same)
map_parts f None y h = absurd (cc)

-- ---- Base58

distinct : Distinct base58_alphabet
distinct = refl

read_is : (bytes : Bytes) → Below 256 bytes → read_base58 (base58 bytes) ≡ Some bytes
read_is bytes h =
    let digits = rebased 256 58 bytes in
    ap (option_map (rebased 58 256)) (read_spelled base58_alphabet digits distinct (below_rebased 256 58 (lit< tt) bytes))
    ∙ ap Some (rebased_back 256 58 (lit< tt) (lit< tt) bytes h)

read_only : (text bytes : Bytes) → read_base58 text ≡ Some bytes → base58 bytes ≡ text
read_only text bytes h =
    let read = map_parts (rebased 58 256) (read_digits base58_alphabet text) bytes h in
    let text_is = spelled_read base58_alphabet text read.0 read.1 in
    ap base58 (sym read.2) ∙ (ap (spelled base58_alphabet) (rebased_back 58 256 (lit< tt) (lit< tt) read.0 text_is.1) ∙ text_is.0)

-- ---- with the check behind

pub length_check : (bytes : Bytes) → length (check_of bytes) ≡ 4
length_check bytes =
    let digest : length (hash256 bytes) ≡ 32 = digest_has_its_length Hash256 bytes in
    length-take 4 (hash256 bytes) ∙ omega (arith, digest)

pub below_check : (bytes : Bytes) → Below 256 (check_of bytes)
below_check bytes =
    let all = below_bytes (hash256 bytes) (digest_has_bytes Hash256 bytes) in
    below_front 256 (take 4 (hash256 bytes)) (drop 4 (hash256 bytes)) (subst (Below 256) (sym (take-append-drop 4 (hash256 bytes))) all)

unchecked_is : (bytes : Bytes) → unchecked (bytes ++ check_of bytes) ≡ Some bytes
unchecked_is bytes =
    let all = bytes ++ check_of bytes in
    let both = length-append bytes (check_of bytes) in
    let four = length_check bytes in
    let seam : length all - 4 ≡ length bytes = omega (arith, both, four) in
    let front : take (length all - 4) all ≡ bytes = ap (λ (z : ℕ). take z all) seam ∙ take-append_seam bytes (check_of bytes) in
    let back : drop (length all - 4) all ≡ check_of bytes = ap (λ (z : ℕ). drop z all) seam ∙ drop-append_seam bytes (check_of bytes) in
    let long : nat_le 4 (length all) ≡ true = le-leb 4 (length all) (omega (arith, both, four)) in
    let same : bytes_eq (drop (length all - 4) all) (check_of bytes) ≡ true = (bytes_eq-Decides _ _).1 back in
    let test : (nat_le 4 (length all) && bytes_eq (drop (length all - 4) all) (check_of bytes)) ≡ true =
    ap (λ (z : Bool). z && bytes_eq (drop (length all - 4) all) (check_of bytes)) long ∙ same in
    ap (λ (z : Bytes). cond (nat_le 4 (length all) && bytes_eq (drop (length all - 4) all) (check_of z)) (Some z) None) front
    ∙ cond-true _ (Some bytes) None test

unchecked_only : (all bytes : Bytes) → unchecked all ≡ Some bytes → bytes ++ check_of bytes ≡ all
unchecked_only all bytes h =
    let k = length all - 4 in
    let parts = cond_parts (nat_le 4 (length all) && bytes_eq (drop k all) (check_of (take k all))) (take k all) bytes h in
    let tests = and_parts (nat_le 4 (length all)) (bytes_eq (drop k all) (check_of (take k all))) parts.0 in
    let back : drop k all ≡ check_of (take k all) = (bytes_eq-Decides _ _).0 tests.1 in
    ap (λ (z : Bytes). z ++ check_of z) (sym parts.1) ∙ (ap (λ (z : Bytes). take k all ++ z) (sym back) ∙ take-append-drop k all)

pub checked_is_read : (bytes : Bytes) → Below 256 bytes → read_base58_check (base58_check bytes) ≡ Some bytes
unfolding base58_check read_base58_check
checked_is_read bytes h =
    let all = bytes ++ check_of bytes in
    let below = below_joined 256 bytes (check_of bytes) h (below_check bytes) in
    ap (option_and_then unchecked) (read_is all below) ∙ unchecked_is bytes

pub base58_check_is_read : Base58CheckIsRead
base58_check_is_read bytes h = checked_is_read bytes (below_bytes bytes h)

pub base58_check_is_only : Base58CheckIsOnly
unfolding base58_check read_base58_check
base58_check_is_only text bytes h =
    option_and_then_some unchecked (read_base58 text) bytes h
    (λ all read check. ap base58 (unchecked_only all bytes check) ∙ read_only text all read)
