-- The words of printed forms: digits are one token, and spell the number, key or hash value that was printed.
use Rattle.std.proofs.Common.{◌≡◌, ℕ, zero, suc, ◌+◌, ◌==◌, ◌<◌, ◌≤◌, ◌^◌, ◌/◌, ◌%◌, Bool, true, false, ◌&&◌, ◌||◌, not, List, [], ◌∷◌, ◌++◌, length, slice_index, codes, decimal, Some, None, refl, ap, ◌∙◌, append_assoc, arith}
use Rattle.std.specs.Prelude.{IsTrue, nat_le, if◌then◌else◌}
use Rattle.std.specs.List.{list_all}
use Rattle.std.specs.Option.{option_and_then}
use Rattle.std.specs.Result.{result_ok}
use Rattle.std.specs.Str.{all_ascii_digits, bytes_eq}
use Rattle.std.specs.Str.Parse.{digits_value}
use Rattle.std.proofs.lemmas.Fmt.{digits_decimal, digits_value-decimal, length-decimal-le, decimal_nonempty, first_decimal, decimal_digit}
use Rattle.std.proofs.lemmas.Bool.{and_parts, le-leb}
use Rattle.std.proofs.Math.Bool.{or-true}
use Rattle.std.specs.Char.{is_ascii_digit}
use Rattle.std.proofs.lemmas.Str.Parse.{numerals_by_value, tells_all_ascii_digits, IsNumeralModel}
use Rattle.hex.specs.Hex.{IsBytes, encode_lower, encode_with, lower_digits}
use Rattle.hex.proofs.HexLemmas.{decode_of-encode_lower, length-encode_with}
use Rattle.def_script.specs.Bytes.{Bytes}
use Rattle.def_hash.specs.Hash.{digest_length}
use Rattle.def_hash.specs.declared.HashKind.{HashKind}
use Rattle.def_tree.specs.Tree.{Key}
use Rattle.def_tree.specs.Range.{IsKey, IsDigest}
use Rattle.def_text.specs.Token.{Token, word, closing, is_word_byte, byte_before, word_before, tokens_from}
use Rattle.def_text.specs.Word.{is_number, number_of, digits_of, is_digest}
use Rattle.def_text.proofs.Cut.{starts_word, alone}
use Rattle.def_script.proofs.KeyLemmas.{key_length}

-- no word begins where these bytes do
abbrev pub NoWord : Bytes → Type 0
NoWord rest = (n : ℕ) → starts_word (tokens_from n rest) ≡ false

pub word_byte : (at b : ℕ) (ts : List Token) → is_word_byte b ≡ true → byte_before at b ts ≡ word_before at b ts
word_byte at b ts h = rw h refl

-- bytes of a word are one token
pub one_token : (w : Bytes) (at : ℕ) (rest : Bytes) → list_all is_word_byte w ≡ true → 0 < length w → NoWord rest →
    (n : ℕ) × (tokens_from at (w ++ rest) ≡ word at w ∷ tokens_from n rest)
one_token [] at rest h l none = absurd (omega arith)
one_token (b ∷ []) at rest h l none =
    let (first, others) = and_parts (is_word_byte b) true h in
    (at + 1, word_byte at b (tokens_from (at + 1) rest) first ∙ alone at b (tokens_from (at + 1) rest) (none (at + 1)))
one_token (b ∷ c ∷ w) at rest h l none =
    let (first, others) = and_parts (is_word_byte b) (list_all is_word_byte (c ∷ w)) h in
    let (n, e) = one_token (c ∷ w) (at + 1) rest others (omega arith) none in
    (n, word_byte at b (tokens_from (at + 1) ((c ∷ w) ++ rest)) first ∙ ap (word_before at b) e)

-- a word and the `)` behind it
pub closed_word : (w : Bytes) (at : ℕ) (rest : Bytes) → list_all is_word_byte w ≡ true → 0 < length w →
    (n : ℕ) × (tokens_from at ((w ++ codes ")") ++ rest) ≡ word at w ∷ closing n ∷ tokens_from (n + 1) rest)
closed_word w at rest h l =
    let (n, e) = one_token w at (codes ")" ++ rest) h l (λ k. refl) in
    (n, ap (tokens_from at) (append_assoc w (codes ")") rest) ∙ e)

-- ---- numbers

pub own : IsNumeralModel (λ ds. all_ascii_digits ds ≡ true) (digits_value 10)
own = numerals_by_value (λ ds. all_ascii_digits ds ≡ true) tells_all_ascii_digits

small : (n : ℕ) → n < 10 ^ 10 → n < 2 ^ 64
small n h = omega arith

is_number_by : (w : Bytes) → all_ascii_digits w ≡ true → 1 ≤ length w → length w ≤ 10 → 48 < slice_index w 0 → is_number w ≡ true
is_number_by w digits some most first =
    let a : nat_le 1 (length w) ≡ true = le-leb 1 (length w) some in
    let b : nat_le (length w) 10 ≡ true = le-leb (length w) 10 most in
    let c : (slice_index w 0 == 48) ≡ false = grind arith in
    let d : (all_ascii_digits w && nat_le 1 (length w) && nat_le (length w) 10 && not (slice_index w 0 == 48)) ≡ true =
    rw (digits, a, b, c) refl in
    ap (λ v. bytes_eq w (codes "0") || v) d ∙ or-true (bytes_eq w (codes "0"))

pub number_is_spelled : (n : ℕ) → n < 10 ^ 10 → number_of (decimal n) ≡ Some n
number_is_spelled zero h = rw (decimal_digit 0 (omega arith))
number_is_spelled (suc m) h =
    let n : ℕ = suc m in
    let wide : n < 2 ^ 64 = small n h in
    let is : is_number (decimal n) ≡ true =
    is_number_by (decimal n) (digits_decimal own n wide) (decimal_nonempty n wide)
    (length-decimal-le 10 n (omega arith) h wide) (first_decimal n (omega arith) wide) in
    ap (λ b. if b then Some (digits_value 10 (decimal n)) else None) is ∙ ap (λ m. Some m) (digits_value-decimal own n wide)

digits_are_word_bytes : (w : Bytes) → all_ascii_digits w ≡ true → list_all is_word_byte w ≡ true
digits_are_word_bytes [] h = refl
digits_are_word_bytes (c ∷ w) h =
    let (first, others) = and_parts (is_ascii_digit c) (all_ascii_digits w) h in
    rw (first, digits_are_word_bytes w others) refl

pub number_is_word : (n : ℕ) → n < 10 ^ 10 → (list_all is_word_byte (decimal n) ≡ true) × (0 < length (decimal n))
number_is_word n h = (digits_are_word_bytes (decimal n) (digits_decimal own n (small n h)), decimal_nonempty n (small n h))

-- ---- keys and hash values

pub digits_are_spelled : (test : Bytes → Bool) (bytes : Bytes) → IsTrue (test bytes) → IsBytes bytes →
    digits_of test (encode_lower bytes) ≡ Some bytes
digits_are_spelled test bytes h b =
    ap (λ r. option_and_then (λ (v : Bytes). if test v then Some v else None) (result_ok r)) (decode_of-encode_lower bytes b)
    ∙ ap (λ v. if v then Some bytes else None) h

all_at : (test : ℕ → Bool) (t : List ℕ) (k : ℕ) → list_all test t ≡ true → k < length t → test (slice_index t k) ≡ true
all_at test [] k h l = absurd (omega arith)
all_at test (x ∷ xs) zero h l = (and_parts (test x) (list_all test xs) h).0
all_at test (x ∷ xs) (suc k) h l = all_at test xs k (and_parts (test x) (list_all test xs) h).1 (omega arith)

pub digits_are_word : (bytes : Bytes) → IsBytes bytes → list_all is_word_byte (encode_lower bytes) ≡ true
unfolding encode_with
digits_are_word [] b = refl
digits_are_word (x ∷ xs) b =
    let fits : x < 256 = b 0 in
    let high : is_word_byte (slice_index lower_digits (x / 16)) ≡ true = all_at is_word_byte lower_digits (x / 16) refl (omega arith) in
    let low : is_word_byte (slice_index lower_digits (x % 16)) ≡ true = all_at is_word_byte lower_digits (x % 16) refl (omega arith) in
    rw (high, low, digits_are_word xs (λ k. b (suc k))) refl

pub digits_are_some : (bytes : Bytes) → 0 < length bytes → 0 < length (encode_lower bytes)
digits_are_some bytes h = omega (arith, length-encode_with lower_digits bytes)

length_passes : (kind : HashKind) → (digest_length kind == digest_length kind) ≡ true
length_passes kind = grind arith

-- the test of a hash value passes
pub hash_passes : (kind : HashKind) (value : Bytes) → IsDigest kind value → is_digest kind value ≡ true
hash_passes kind value h = ap (λ n. n == digest_length kind) h.length ∙ length_passes kind

pub key_has_digits : (key : Key) → IsKey key → 0 < length (encode_lower key)
key_has_digits key h = let e = key_length key h.form in digits_are_some key (omega arith)

pub hash_is_some : (kind : HashKind) (value : Bytes) → length value ≡ digest_length kind → 0 < length value
hash_is_some kind value = grind arith
