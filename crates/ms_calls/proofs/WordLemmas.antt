-- Words in a buffer: where one ends, and that there is at most one list of them.
use Rattle.memchr.specs.Find.{IsFirstByte, Passes, is_byte}
use Rattle.std.proofs.Common.{eq-eqb, Option, None, Some, length-append, ◌≡◌, ◌≢◌, ℕ, zero, suc, ◌+◌, ◌-◌, ◌<◌, ◌≤◌, List, [], ◌∷◌, ◌++◌, length, take, drop, All, refl, sym, ap, subst, ◌∙◌, append_assoc, arith}
use Rattle.std.proofs.lemmas.Bool.{eqb-true}
use Rattle.std.proofs.lemmas.List.{append-nil}
use Rattle.std.proofs.lemmas.List.Elements.{All-push}
use Rattle.std.specs.Str.{IsUtf8}
use Rattle.std.specs.Prelude.{slice_index}
use Rattle.def_script.specs.Bytes.{Bytes}
use Rattle.ms_calls.specs.Words.{HasNoNul, HaveNoNul, words_bytes, AreWords, AreNoWords, OneList}

-- bytes without a 0, before a 0
pub before_nul : (a b p q : Bytes) → HasNoNul a → HasNoNul b → a ++ 0 ∷ p ≡ b ++ 0 ∷ q → (a ≡ b) × (p ≡ q)
before_nul [] [] p q h k e = (refl, cc)
before_nul [] (y ∷ b) p q h k e = let same : 0 ≡ y = cc in let more = k.0 in absurd (omega (arith, same, more))
before_nul (x ∷ a) [] p q h k e = let same : x ≡ 0 = cc in let more = h.0 in absurd (omega (arith, same, more))
before_nul (x ∷ a) (y ∷ b) p q h k e =
    let head : x ≡ y = cc in
    let tail : a ++ 0 ∷ p ≡ b ++ 0 ∷ q = cc in
    let rest = before_nul a b p q h.1 k.1 tail in (cc (head, rest.0), rest.1)

not_empty : (word rest : Bytes) → word ++ 0 ∷ rest ≢ []
not_empty [] rest e = cc
not_empty (x ∷ word) rest e = cc

same_words : (words others : List Bytes) → HaveNoNul words → HaveNoNul others → words_bytes words ≡ words_bytes others → words ≡ others
same_words [] [] h k e = refl
same_words [] (v ∷ others) h k e = absurd (not_empty v (words_bytes others) (sym e))
same_words (w ∷ words) [] h k e = absurd (not_empty w (words_bytes words) e)
same_words (w ∷ words) (v ∷ others) h k e =
    let one = before_nul w v (words_bytes words) (words_bytes others) h.0 k.0 e in
    let more = same_words words others h.1 k.1 one.1 in cc (one.0, more)

pub one_list : OneList
one_list count bytes words others a b = same_words words others a.no_nul b.no_nul (sym a.spelled ∙ b.spelled)

-- ---- where the first word ends

pub no_nul_front : (bytes : Bytes) (k : ℕ) → k ≤ length bytes → ((j : ℕ) → j < k → slice_index bytes j ≢ 0) → HasNoNul (take k bytes)
no_nul_front bytes zero few none = tt
no_nul_front [] (suc k) few none = tt
no_nul_front (x ∷ bytes) (suc k) few none =
    let first = none 0 (omega arith) in
    (omega (arith, first), no_nul_front bytes k (omega (arith, few)) (λ j more. none (suc j) (omega (arith, more))))

pub nul_there : (word rest : Bytes) → slice_index (word ++ 0 ∷ rest) (length word) ≡ 0
nul_there [] rest = refl
nul_there (x ∷ word) rest = nul_there word rest

-- ---- words that are read one after the other

-- so many words were read, and the rest are the others
pub record AreRead (count i : ℕ) (bytes : Bytes) (words : List Bytes) (rest : Bytes) : Type 0 where
  pub counted : length words ≡ i
  pub spelled : bytes ≡ words_bytes words ++ rest
  pub utf8 : All IsUtf8 words
  pub no_nul : HaveNoNul words
  pub others : (list : List Bytes) → AreWords count bytes list → (more : List Bytes) × (length more ≡ count - i) × (rest ≡ words_bytes more) × All IsUtf8 more × HaveNoNul more

words_after : (words : List Bytes) (word : Bytes) → words_bytes (words ++ word ∷ []) ≡ words_bytes words ++ (word ++ 0 ∷ [])
words_after [] word = refl
words_after (w ∷ words) word = ap (λ l. w ++ 0 ∷ l) (words_after words word) ∙ sym (append_assoc w (0 ∷ words_bytes words) (word ++ 0 ∷ []))

no_nul_after : (words : List Bytes) (word : Bytes) → HaveNoNul words → HasNoNul word → HaveNoNul (words ++ word ∷ [])
no_nul_after [] word h k = (k, tt)
no_nul_after (w ∷ words) word h k = (h.0, no_nul_after words word h.1 k)

pub none_read : (count : ℕ) (bytes : Bytes) → AreRead count 0 bytes [] bytes
none_read count bytes = record {
  counted = refl;
  spelled = refl;
  utf8 = λ k d few. absurd (omega (arith, few));
  no_nul = tt;
  others = λ list are. let all = are.counted in (list, omega (arith, all), are.spelled, are.utf8, are.no_nul);
}

is_next : (count i : ℕ) (words : List Bytes) (word rest after : Bytes) → i < count → rest ≡ word ++ 0 ∷ after → HasNoNul word → (more : List Bytes) → length more ≡ count - i
    → rest ≡ words_bytes more → All IsUtf8 more → HaveNoNul more
    → (list : List Bytes) × (length list ≡ count - (i + 1)) × (after ≡ words_bytes list) × All IsUtf8 list × HaveNoNul list
is_next count i words word rest after left split no_nul [] len is utf8 free = let none : 0 ≡ count - i = len in absurd (omega (arith, none, left))
is_next count i words word rest after left split no_nul (w ∷ more) len is utf8 free =
    let one = before_nul word w after (words_bytes more) no_nul free.0 (sym split ∙ is) in
    let fewer : length more + 1 ≡ count - i = omega (arith, len) in
    (more, omega (arith, fewer, left), one.1, λ k d few. utf8 (suc k) d (omega (arith, few)), free.1)

pub next_read : (count i : ℕ) (bytes : Bytes) (words : List Bytes) (word rest after : Bytes) → i < count → AreRead count i bytes words rest → rest ≡ word ++ 0 ∷ after
    → IsUtf8 word → HasNoNul word → AreRead count (i + 1) bytes (words ++ word ∷ []) after
next_read count i bytes words word rest after left read split utf8 no_nul = record {
  counted = length-append words (word ∷ []) ∙ ap (λ n. n + 1) read.counted;
  spelled = read.spelled ∙ ap (λ r. words_bytes words ++ r) split ∙ whole;
  utf8 = All-push IsUtf8 words word read.utf8 utf8;
  no_nul = no_nul_after words word read.no_nul no_nul;
  others = λ list are. let o = read.others list are in is_next count i words word rest after left split no_nul o.0 o.1 o.2 o.3 o.4;
}
  where
    whole : words_bytes words ++ (word ++ 0 ∷ after) ≡ words_bytes (words ++ word ∷ []) ++ after
    whole = rw (words_after words word) (simp append_assoc)

no_next : (count i : ℕ) (rest : Bytes) → i < count → ((word after : Bytes) → IsUtf8 word → HasNoNul word → rest ≢ word ++ 0 ∷ after) → (more : List Bytes)
    → length more ≡ count - i → rest ≡ words_bytes more → All IsUtf8 more → HaveNoNul more → ⊥
no_next count i rest left none [] len is utf8 free = let nothing : 0 ≡ count - i = len in omega (arith, nothing, left)
no_next count i rest left none (w ∷ more) len is utf8 free = none w (words_bytes more) (utf8 0 w (omega arith)) free.0 is

-- a word is left, and the rest doesn't begin with one
pub none_left : (count i : ℕ) (bytes : Bytes) (words : List Bytes) (rest : Bytes) → i < count → AreRead count i bytes words rest
    → ((word after : Bytes) → IsUtf8 word → HasNoNul word → rest ≢ word ++ 0 ∷ after) → AreNoWords count bytes
none_left count i bytes words rest left read none list are = let o = read.others list are in no_next count i rest left none o.0 o.1 o.2 o.3 o.4

no_more : (count i : ℕ) (rest : Bytes) → count ≤ i → rest ≢ [] → (more : List Bytes) → length more ≡ count - i → rest ≡ words_bytes more → ⊥
no_more count i rest all some [] len is = some is
no_more count i rest all some (w ∷ more) len is = let one : length more + 1 ≡ count - i = omega (arith, len) in omega (arith, one, all)

-- all words were read, and nothing is left
pub all_read : (count i : ℕ) (bytes : Bytes) (words : List Bytes) (rest : Bytes) → i ≡ count → AreRead count i bytes words rest → rest ≡ [] → AreWords count bytes words
all_read count i bytes words rest all read none = record {
  counted = read.counted ∙ all;
  spelled = read.spelled ∙ ap (λ r. words_bytes words ++ r) none ∙ append-nil (words_bytes words);
  utf8 = read.utf8;
  no_nul = read.no_nul;
}

-- ---- the first 0

zero_passes : (bytes word rest : Bytes) → bytes ≡ word ++ 0 ∷ rest → Passes (is_byte 0) bytes (length word)
zero_passes bytes word rest is = eq-eqb _ 0 (ap (λ (l : Bytes). slice_index l (length word)) is ∙ nul_there word rest)

is_within : (bytes word rest : Bytes) → bytes ≡ word ++ 0 ∷ rest → length word < length bytes
is_within bytes word rest is = let whole : length bytes ≡ length word + length (0 ∷ rest) = ap length is ∙ length-append word (0 ∷ rest) in omega (arith, whole)

-- without a 0 there is no word
pub no_word : (bytes : Bytes) (r : Option ℕ) → r ≡ None → IsFirstByte (is_byte 0) bytes r → (word rest : Bytes) → bytes ≢ word ++ 0 ∷ rest
no_word bytes r none first word rest is =
    let nowhere : IsFirstByte (is_byte 0) bytes None = subst (IsFirstByte (is_byte 0) bytes) none first in
    nowhere (length word) (omega arith) (is_within bytes word rest is) (zero_passes bytes word rest is)

-- no 0 stands before the first one
pub free_front : (bytes : Bytes) (end : ℕ) (r : Option ℕ) → r ≡ Some end → IsFirstByte (is_byte 0) bytes r → HasNoNul (take end bytes)
free_front bytes end r found first =
    let at : IsFirstByte (is_byte 0) bytes (Some end) = subst (IsFirstByte (is_byte 0) bytes) found first in
    let high = at.0.high in
    no_nul_front bytes end (omega (arith, high)) (λ j before is. at.0.before j (omega arith) before (eq-eqb _ 0 is))

split_there : (bytes : Bytes) (k : ℕ) → k < length bytes → slice_index bytes k ≡ 0 → bytes ≡ take k bytes ++ 0 ∷ drop (suc k) bytes
split_there [] k few is = absurd (omega (arith, few))
split_there (x ∷ bytes) zero few is = ap (λ y. y ∷ bytes) is
split_there (x ∷ bytes) (suc k) few is = ap (λ l. x ∷ l) (split_there bytes k (omega (arith, few)) is)

-- and what stands before it is the word, where there is one
pub other_word : (bytes : Bytes) (end : ℕ) (r : Option ℕ) → r ≡ Some end → IsFirstByte (is_byte 0) bytes r → ¬ IsUtf8 (take end bytes)
    → (word rest : Bytes) → IsUtf8 word → HasNoNul word → bytes ≢ word ++ 0 ∷ rest
other_word bytes end r found first broken word rest utf8 free is =
    let at : IsFirstByte (is_byte 0) bytes (Some end) = subst (IsFirstByte (is_byte 0) bytes) found first in
    let split = split_there bytes end at.0.high (eqb-true _ 0 at.1) in
    let one = before_nul word (take end bytes) rest (drop (suc end) bytes) free (free_front bytes end r found first) (sym is ∙ split) in
    broken (subst IsUtf8 one.0 utf8)
