-- A word at the front of bytes ends where no byte of a word follows, so words can be told apart by the bytes alone.
use Rattle.std.proofs.Common.{◌≡◌, ℕ, ◌<◌, ◌^◌, Bool, true, false, List, [], ◌∷◌, ◌++◌, codes, decimal, Result, Ok, Err, refl, sym, ap, ◌∙◌, append_assoc}
use Rattle.std.specs.List.{list_all}
use Rattle.std.specs.Char.{is_ascii_digit}
use Rattle.std.specs.Str.{all_ascii_digits}
use Rattle.std.specs.Str.Parse.{digits_value}
use Rattle.std.proofs.lemmas.Bool.{and_parts, false≢true}
use Rattle.std.proofs.lemmas.Fmt.{digits_decimal}
use Rattle.std.proofs.lemmas.Str.Parse.{numerals_by_value, tells_all_ascii_digits, IsNumeralModel}
use Rattle.hex.specs.Hex.{encode_lower, decode_of}
use Rattle.hex.specs.declared.error.FromHexError.{FromHexError}
use Rattle.hex.proofs.HexLemmas.{decode_of-encode_lower}
use Rattle.def_script.specs.Bytes.{Bytes, IsBytes}
use Rattle.def_text.specs.Token.{is_word_byte}

-- a byte of a word stands first
abbrev pub begins_word : Bytes → Bool
begins_word [] = false
begins_word (b ∷ bytes) = is_word_byte b

-- all bytes belong to words
abbrev pub IsWord : Bytes → Type 0
IsWord w = list_all is_word_byte w ≡ true

-- the first byte, and what stands behind it
abbrev pub first : Bytes → ℕ
first [] = 0
first (b ∷ bytes) = b

abbrev pub behind : Bytes → Bytes
behind [] = []
behind (b ∷ bytes) = bytes

pub same_word : (a b u v : Bytes) → IsWord a → IsWord b → begins_word u ≡ false → begins_word v ≡ false →
    a ++ u ≡ b ++ v → (a ≡ b) × (u ≡ v)
same_word [] [] u v ha hb hu hv e = (refl, e)
same_word [] (c ∷ b) u v ha hb hu hv e =
    absurd (false≢true (sym hu ∙ ap begins_word e ∙ (and_parts (is_word_byte c) (list_all is_word_byte b) hb).0))
same_word (c ∷ a) [] u v ha hb hu hv e =
    absurd (false≢true (sym hv ∙ ap begins_word (sym e) ∙ (and_parts (is_word_byte c) (list_all is_word_byte a) ha).0))
same_word (c ∷ a) (d ∷ b) u v ha hb hu hv e =
    let rest = same_word a b u v (and_parts (is_word_byte c) (list_all is_word_byte a) ha).1
    (and_parts (is_word_byte d) (list_all is_word_byte b) hb).1 hu hv (ap behind e) in
    (ap (λ x. x ∷ a) (ap first e) ∙ ap (λ w. d ∷ w) rest.0, rest.1)

-- a word in parentheses
pub same_closed : (a b x y : Bytes) → IsWord a → IsWord b →
    (codes "(" ++ a ++ codes ")") ++ x ≡ (codes "(" ++ b ++ codes ")") ++ y → (a ≡ b) × (x ≡ y)
same_closed a b x y ha hb e =
    let s = same_word a b (codes ")" ++ x) (codes ")" ++ y) ha hb refl refl
    (sym (append_assoc a (codes ")") x) ∙ ap behind e ∙ append_assoc b (codes ")") y) in
    (s.0, ap behind s.1)

-- ---- numbers

digits_are_word_bytes : (w : Bytes) → all_ascii_digits w ≡ true → IsWord w
digits_are_word_bytes [] h = refl
digits_are_word_bytes (c ∷ w) h =
    let (one, others) = and_parts (is_ascii_digit c) (all_ascii_digits w) h in
    rw (one, digits_are_word_bytes w others) refl

own : IsNumeralModel (λ ds. all_ascii_digits ds ≡ true) (digits_value 10)
own = numerals_by_value (λ ds. all_ascii_digits ds ≡ true) tells_all_ascii_digits

pub decimal_is_word : (n : ℕ) → n < 2 ^ 64 → IsWord (decimal n)
decimal_is_word n h = digits_are_word_bytes (decimal n) (digits_decimal own n h)

-- ---- keys and hash values

decoded : Result (List ℕ) FromHexError → Bytes
decoded (Ok bytes) = bytes
decoded (Err e) = []

pub same_bytes : (a b : Bytes) → IsBytes a → IsBytes b → encode_lower a ≡ encode_lower b → a ≡ b
unfolding decoded
same_bytes a b ha hb e =
    ap decoded (sym (decode_of-encode_lower a ha) ∙ ap decode_of e ∙ decode_of-encode_lower b hb)
