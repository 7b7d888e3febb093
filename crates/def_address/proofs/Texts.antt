-- Digits are read from the characters that spell them, and from no others.
use Rattle.std.proofs.Common.{◌≡◌, ℕ, zero, suc, ◌<◌, ◌≤◌, ◌==◌, List, [], ◌∷◌, length, Bool, true, false, cond, arith, refl, sym, ap, subst, ◌∙◌, inl, inr, lt-ltb, eqb-true}
use Rattle.std.specs.Prelude.{position, nat_lt, slice_index, Option, Some, None}
use Rattle.std.specs.List.{position_or_len}
use Rattle.std.proofs.Math.Nat.{eq-or-lt_of_le}
use Rattle.std.proofs.lemmas.Bool.{cond-true}
use Rattle.std.proofs.lemmas.List.Quantifiers.{position-Some}
use Rattle.def_script.specs.Bytes.{Bytes}
use Rattle.def_address.specs.Digits.{spelled, read_digits, with_digit}
use Rattle.def_address.proofs.Digits.{Below}

pub both_true : (a b : Bool) → cond a b false ≡ true → (a ≡ true) × (b ≡ true)
both_true true b h = (refl, h)
both_true false b h = absurd (cc)

-- whether the characters at the places below n are found there first
abbrev pub found_below : (alphabet : Bytes) → ℕ → Bool
found_below alphabet zero = true
found_below alphabet (suc n) = cond (position_or_len (λ other. other == slice_index alphabet n) alphabet == n) (found_below alphabet n) false

found_at : (alphabet : Bytes) (n d : ℕ) → found_below alphabet n ≡ true → d < n → position_or_len (λ other. other == slice_index alphabet d) alphabet ≡ d
found_at alphabet zero d h less = absurd (omega (arith, less))
found_at alphabet (suc n) d h less =
    let parts = both_true (position_or_len (λ other. other == slice_index alphabet n) alphabet == n) (found_below alphabet n) h in
    let here : position_or_len (λ other. other == slice_index alphabet n) alphabet ≡ n = eqb-true _ _ parts.0 in
    let P : ℕ → Type 0 = λ z. position_or_len (λ other. other == slice_index alphabet z) alphabet ≡ z in
    let le : d ≤ n = omega arith in
    elim (eq-or-lt_of_le le) [ inl is ↦ subst P (sym is) here | inr below ↦ found_at alphabet n d parts.1 below ]

-- each character of the alphabet is found at its own place
abbrev pub Distinct : Bytes → Type 0
Distinct alphabet = found_below alphabet (length alphabet) ≡ true

place_of : (alphabet : Bytes) (d : ℕ) → Distinct alphabet → d < length alphabet → position (λ other. other == slice_index alphabet d) alphabet ≡ Some d
place_of alphabet d h less =
    let at = found_at alphabet (length alphabet) d h less in
    let test : nat_lt d (length alphabet) ≡ true = lt-ltb d (length alphabet) less in
    ap (λ (z : ℕ). cond (nat_lt z (length alphabet)) (Some z) None) at ∙ cond-true (nat_lt d (length alphabet)) (Some d) None test

pub read_spelled : (alphabet : Bytes) (digits : List ℕ) → Distinct alphabet → Below (length alphabet) digits → read_digits alphabet (spelled alphabet digits) ≡ Some digits
read_spelled alphabet [] h below = refl
read_spelled alphabet (digit ∷ digits) h below =
    let here = place_of alphabet digit h below.0 in
    let rest = read_spelled alphabet digits h below.1 in
    ap (λ (z : Option ℕ). with_digit z (read_digits alphabet (spelled alphabet digits))) here ∙ ap (λ (z : Option (List ℕ)). with_digit (Some digit) z) rest

-- the parts of a digit and digits that were read
abbrev pub Parts : Option ℕ → Option (List ℕ) → List ℕ → Type 0
Parts first rest digits = (d : ℕ) × (ds : List ℕ) × (first ≡ Some d) × (rest ≡ Some ds) × (d ∷ ds ≡ digits)

parts : (first : Option ℕ) (rest : Option (List ℕ)) (digits : List ℕ) → with_digit first rest ≡ Some digits → Parts first rest digits
parts (Some d) (Some ds) digits h = let same : d ∷ ds ≡ digits = cc in (d, ds, refl, refl, same)
parts (Some d) None digits h = absurd (cc)
parts None (Some ds) digits h = absurd (cc)
parts None None digits h = absurd (cc)

pub spelled_read : (alphabet text : Bytes) (digits : List ℕ) → read_digits alphabet text ≡ Some digits → (spelled alphabet digits ≡ text) × Below (length alphabet) digits
spelled_read alphabet [] digits h =
    let none : [] ≡ digits = cc in
    let P : List ℕ → Type 0 = λ z. (spelled alphabet z ≡ []) × Below (length alphabet) z in
    subst P none (refl, tt)
spelled_read alphabet (letter ∷ text) digits h =
    let read = parts (position (λ other. other == letter) alphabet) (read_digits alphabet text) digits h in
    let place = position-Some (λ other. other == letter) alphabet read.0 0 read.2 in
    let rest = spelled_read alphabet text read.1 read.3 in
    let same : slice_index alphabet read.0 ≡ letter = eqb-true _ _ place.1 in
    let P : List ℕ → Type 0 = λ z. (spelled alphabet z ≡ letter ∷ text) × Below (length alphabet) z in
    subst P read.4
    (ap (λ (z : ℕ). z ∷ spelled alphabet read.1) same ∙ ap (λ (z : List ℕ). letter ∷ z) rest.0, (place.0, rest.1))
