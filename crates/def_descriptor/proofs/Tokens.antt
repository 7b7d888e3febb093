-- The first token of some bytes: up to the first byte that doesn't belong to the one before.
use Rattle.std.proofs.Common.{◌≡◌, ℕ, suc, ◌+◌, ◌<◌, ◌≤◌, Bool, true, false, List, [], ◌∷◌, length, take, drop, get_or, arith, refl, sym, ap, ◌∙◌, cond}
use Rattle.std.specs.Prelude.{◌&&◌, ◌||◌}
use Rattle.std.proofs.lemmas.Bool.{cond-true, cond-false}
use Rattle.def_script.specs.Bytes.{Bytes}
use Rattle.def_text.specs.Token.{is_word_byte, goes_on}
use Rattle.def_descriptor.specs.Token.{Token, token, belongs, byte_before, tokens_from}

-- how many bytes it has
unfoldable pub first_length : Bytes → ℕ
first_length [] = 0
first_length (b ∷ bytes) = suc (cond (belongs b bytes) (first_length bytes) 0)

-- the first token, of so many bytes and one, and those behind it
abbrev pub first_of : (at b n : ℕ) → Bytes → List Token
first_of at b n bytes = token at (take (suc n) (b ∷ bytes)) ∷ tokens_from (at + suc n) (drop (suc n) (b ∷ bytes))

with_two : (at b c : ℕ) (bytes : Bytes) (t : Bool) → belongs b (c ∷ bytes) ≡ t
    → tokens_from (at + 1) (c ∷ bytes) ≡ first_of (at + 1) c (cond (belongs c bytes) (first_length bytes) 0) bytes
    → tokens_from at (b ∷ c ∷ bytes) ≡ first_of at b (cond (belongs b (c ∷ bytes)) (first_length (c ∷ bytes)) 0) (c ∷ bytes)
unfolding first_length
with_two at b c bytes true h behind =
    let n : ℕ = first_length (c ∷ bytes) in
    let end : at + 1 + n ≡ at + suc n = omega arith in
    ap (byte_before at b) behind
    ∙ (cond-true (belongs b (c ∷ bytes)) (token at (b ∷ take n (c ∷ bytes)) ∷ tokens_from (at + 1 + n) (drop n (c ∷ bytes)))
    (token at (b ∷ []) ∷ first_of (at + 1) c (cond (belongs c bytes) (first_length bytes) 0) bytes) h
    ∙ (ap (λ (z : ℕ). token at (b ∷ take n (c ∷ bytes)) ∷ tokens_from z (drop n (c ∷ bytes))) end
    ∙ ap (λ (z : ℕ). first_of at b z (c ∷ bytes)) (sym (cond-true (belongs b (c ∷ bytes)) n 0 h))))
with_two at b c bytes false h behind =
    let n : ℕ = first_length (c ∷ bytes) in
    ap (byte_before at b) behind
    ∙ (cond-false (belongs b (c ∷ bytes)) (token at (b ∷ take n (c ∷ bytes)) ∷ tokens_from (at + 1 + n) (drop n (c ∷ bytes)))
    (token at (b ∷ []) ∷ first_of (at + 1) c (cond (belongs c bytes) (first_length bytes) 0) bytes) h
    ∙ (ap (λ (z : List Token). token at (b ∷ []) ∷ z) (sym behind)
    ∙ ap (λ (z : ℕ). first_of at b z (c ∷ bytes)) (sym (cond-false (belongs b (c ∷ bytes)) n 0 h))))

pub first_token : (at b : ℕ) (bytes : Bytes) → tokens_from at (b ∷ bytes) ≡ first_of at b (cond (belongs b bytes) (first_length bytes) 0) bytes
first_token at b [] = refl
first_token at b (c ∷ bytes) = with_two at b c bytes (belongs b (c ∷ bytes)) refl (first_token (at + 1) c bytes)

-- ---- where it ends

pub first_within : (bytes : Bytes) → first_length bytes ≤ length bytes
unfolding first_length
first_within [] = omega arith
first_within (b ∷ bytes) = go (belongs b bytes) (first_within bytes)
  where
    go : (t : Bool) → first_length bytes ≤ length bytes → suc (cond t (first_length bytes) 0) ≤ suc (length bytes)
    go true h = omega arith
    go false h = omega arith

none_behind : (x y : Bool) → (x || y) ≡ false → y ≡ false
none_behind true y h = absurd (cc)
none_behind false y h = h

-- the byte behind it goes on with no character
pub first_apart : (bytes : Bytes) → first_length bytes < length bytes → goes_on (get_or bytes (first_length bytes) 0) ≡ false
unfolding first_length
first_apart [] h = absurd (omega (arith, h))
first_apart (b ∷ []) h = absurd (omega (arith, h))
first_apart (b ∷ c ∷ bytes) h = go (belongs b (c ∷ bytes)) refl h (first_apart (c ∷ bytes))
  where
    n : ℕ
    n = first_length (c ∷ bytes)

    go : (t : Bool) → belongs b (c ∷ bytes) ≡ t → suc (cond t n 0) < suc (suc (length bytes))
        → (n < length (c ∷ bytes) → goes_on (get_or (c ∷ bytes) n 0) ≡ false)
        → goes_on (get_or (b ∷ c ∷ bytes) (suc (cond t n 0)) 0) ≡ false
    go true e i later = later (omega (arith, i))
    go false e i later = none_behind (is_word_byte b && is_word_byte c) (goes_on c) e
