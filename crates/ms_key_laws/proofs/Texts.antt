-- Texts of the same pieces with other keys in them.
use Rattle.std.proofs.Common.{◌≡◌, inl, inr, ℕ, zero, suc, ◌+◌, ◌*◌, ◌/◌, ◌%◌, ◌≤◌, ◌==◌, ◌||◌, List, [], ◌∷◌, ◌++◌, length, map, replicate, slice_index, codes, refl, sym, ap, ◌∙◌, arith, length-append, IsTrue}
use Rattle.std.specs.Prelude.{All, ⊤}
use Rattle.std.proofs.lemmas.Bool.{and_parts, or_cases, eqb-true}
use Rattle.std.proofs.lemmas.List.Elements.{All-head, All-tail}
use Rattle.hex.specs.Hex.{encode_lower, encode_with, lower_digits}
use Rattle.hex.proofs.HexLemmas.{length-encode_with}
use Rattle.hex.proofs.OnLiterals.{hex_on_literals}
use Rattle.def_script.specs.Bytes.{Bytes}
use Rattle.def_script.specs.Key.{is_key}
use Rattle.def_script.proofs.KeyLemmas.{key_length}
use Rattle.def_tree.specs.Tree.{Key}
use Rattle.def_tree.specs.Range.{IsKey}
use Rattle.def_text.specs.Token.{tokens_from, end}
use Rattle.def_text.proofs.PrintedWords.{digits_are_spelled, digits_are_word}
use Rattle.def_descriptor.specs.Pieces.{Piece, plain, key, expressions, text_with}
use Rattle.def_descriptor.specs.Answer.{ANY_KEY, sample}
use Rattle.ms_key_laws.proofs.Words.{KeyWord}
use Rattle.ms_key_laws.proofs.Tokens.{AreAlike, no_token, same_token, bytes_before, keys_before_both}

-- ---- the digits of keys

first_small : (own : Key) → IsTrue (is_key own) → slice_index own 0 / 16 ≡ 0
first_small own form = elim (or_cases (slice_index own 0 == 2) (slice_index own 0 == 3) (and_parts (length own == 33) (slice_index own 0 == 2 || slice_index own 0 == 3) form).1) [
  | inl two ↦ let e : slice_index own 0 ≡ 2 = eqb-true (slice_index own 0) 2 two in omega arith
  | inr three ↦ let e : slice_index own 0 ≡ 3 = eqb-true (slice_index own 0) 3 three in omega arith
]

first_digit : (own : Key) → length own ≡ 33 → slice_index own 0 / 16 ≡ 0 → (rest : Bytes) × (encode_lower own ≡ 48 ∷ rest)
unfolding encode_with
first_digit [] long small = absurd (omega arith)
first_digit (b ∷ own) long small =
    let other : Bytes = slice_index lower_digits (b % 16) ∷ encode_with lower_digits own in
    (other, ap (λ (z : ℕ). slice_index lower_digits z ∷ other) small)

pub key_word : (own : Key) → IsKey own → KeyWord (encode_lower own)
key_word own h =
    let long : length own ≡ 33 = key_length own h.form in
    let twice : length (encode_lower own) ≡ 2 * length own = length-encode_with lower_digits own in
    let (rest, is) = first_digit own long (first_small own h.form) in
    record { rest = rest; is = is; long = omega arith; word = digits_are_word own h.bytes; own = own; spells = digits_are_spelled is_key own h.form h.bytes }

any_key : KeyWord ANY_KEY
unfolding hex_on_literals
any_key = record {
  rest = codes "279be667ef9dcbbac55a06295ce870b07029bfcdb2dce28d959f2815b16f81798";
  is = refl;
  long = refl;
  word = refl;
  own = _;
  spells = refl;
}

-- ---- words that are keys

abbrev pub AllKeys : List Bytes → Type 0
AllKeys [] = ⊤
AllKeys (word ∷ words) = KeyWord word × AllKeys words

pub all_keys : (keys : List Key) → All IsKey keys → AllKeys (map encode_lower keys)
all_keys [] h = tt
all_keys (own ∷ keys) h = (key_word own (All-head IsKey own keys h), all_keys keys (All-tail IsKey own keys h))

pub all_any : (count : ℕ) → AllKeys (replicate count ANY_KEY)
all_any zero = tt
all_any (suc count) = (any_key, all_any count)

-- ---- texts

one_less : (m n : ℕ) → suc m ≡ suc n → m ≡ n
one_less m n e = omega arith

pub texts_alike : (ps : List Piece) (words others : List Bytes) (at : ℕ) → AllKeys words → AllKeys others → length words ≡ length others
    → AreAlike (tokens_from at (text_with words ps)) (tokens_from at (text_with others ps))
texts_alike [] words others at h g e = same_token (end at) no_token
texts_alike (plain place bytes ∷ ps) words others at h g e =
    bytes_before bytes at (text_with words ps) (text_with others ps) (λ n. texts_alike ps words others n h g e)
texts_alike (key expression ∷ ps) [] [] at h g e = texts_alike ps [] [] at h g e
texts_alike (key expression ∷ ps) [] (other ∷ others) at h g e = absurd (omega arith)
texts_alike (key expression ∷ ps) (word ∷ words) [] at h g e = absurd (omega arith)
texts_alike (key expression ∷ ps) (word ∷ words) (other ∷ others) at h g e =
    keys_before_both at (text_with words ps) (text_with others ps) h.0 g.0 (λ n. texts_alike ps words others n h.1 g.1 (one_less _ _ e))

pub same_size : (ps : List Piece) (words others : List Bytes) → AllKeys words → AllKeys others → length words ≡ length others
    → length (text_with words ps) ≡ length (text_with others ps)
same_size [] words others h g e = refl
same_size (plain place bytes ∷ ps) words others h g e =
    length-append bytes (text_with words ps)
    ∙ (ap (λ (z : ℕ). length bytes + z) (same_size ps words others h g e) ∙ sym (length-append bytes (text_with others ps)))
same_size (key expression ∷ ps) [] [] h g e = same_size ps [] [] h g e
same_size (key expression ∷ ps) [] (other ∷ others) h g e = absurd (omega arith)
same_size (key expression ∷ ps) (word ∷ words) [] h g e = absurd (omega arith)
same_size (key expression ∷ ps) (word ∷ words) (other ∷ others) h g e =
    let rest : length (text_with words ps) ≡ length (text_with others ps) = same_size ps words others h.1 g.1 (one_less _ _ e) in
    let long : length word ≡ 66 = h.0.long in
    let other_long : length other ≡ 66 = g.0.long in
    length-append word (text_with words ps)
    ∙ (omega arith ∙ sym (length-append other (text_with others ps)))

-- ---- the text that was read has a key for each expression, and more that stand nowhere

enough : (word : Bytes) (ps : List Piece) (m n : ℕ) → length (expressions ps) ≤ m → length (expressions ps) ≤ n
    → text_with (replicate m word) ps ≡ text_with (replicate n word) ps
enough word [] m n h k = refl
enough word (plain place bytes ∷ ps) m n h k = ap (λ (z : Bytes). bytes ++ z) (enough word ps m n h k)
enough word (key expression ∷ ps) zero n h k = absurd (omega arith)
enough word (key expression ∷ ps) (suc m) zero h k = absurd (omega arith)
enough word (key expression ∷ ps) (suc m) (suc n) h k = ap (λ (z : Bytes). word ++ z) (enough word ps m n (omega arith) (omega arith))

no_more : (ps : List Piece) → length (expressions ps) ≤ length ps
no_more [] = omega arith
no_more (plain place bytes ∷ ps) = let rest = no_more ps in omega arith
no_more (key expression ∷ ps) = let rest = no_more ps in omega arith

pub sample_is : (ps : List Piece) (count : ℕ) → count ≡ length (expressions ps) → text_with (replicate count ANY_KEY) ps ≡ sample ps
sample_is ps count e = enough ANY_KEY ps count (length ps) (omega arith) (no_more ps)
