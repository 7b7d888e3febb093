-- A letter and a colon put into the bytes of a text, before a byte of one of its words: the tokens that come of it.
use Rattle.std.proofs.Common.{◌≡◌, ℕ, ◌+◌, ◌<◌, ◌≤◌, Bool, true, false, ◌&&◌, List, [], ◌∷◌, ◌++◌, map, length, length-append, take, drop, refl, sym, ap, ◌∙◌, subst, arith}
use Rattle.std.specs.List.{list_all}
use Rattle.std.specs.Str.{IsUtf8}
use Rattle.std.proofs.lemmas.Str.{IsUtf8-append, IsUtf8-drop, IsUtf8-past_char, IsCharBoundary-from_take, IsCharBoundary-after_ascii, encode_ascii}
use Rattle.std.proofs.lemmas.Bool.{and_parts}
use Rattle.std.proofs.lemmas.List.{append_assoc, append-nil, append_cancel_left, take_at, drop_at}
use Rattle.def_script.specs.Bytes.{Bytes}
use Rattle.def_text.specs.Token.{Token, word, colon, end, offset, is_word_byte, goes_on, word_before, byte_before, tokens_from, tokens}
use Rattle.def_text.proofs.Cut.{is_word, is_end, starts_word, ends_word, NoEnd, Cut, cut, ByteKind, word_kind, single_kind, skip_kind, kind_of, front_is_utf8, alone}
use Rattle.def_text.proofs.Completion.{ascii_is_utf8}
use Rattle.ms_outline_laws.proofs.Moved.{moved}

-- ---- where tokens begin

abbrev first_offset : List Token → ℕ
first_offset [] = 0
first_offset (t ∷ ts) = offset t

starts_word_at : (at b : ℕ) (ts : List Token) → first_offset (word_before at b ts) ≡ at
starts_word_at at b ts = grind arith

from_kind : (at b : ℕ) (ts : List Token) → ByteKind at b → at ≤ first_offset ts → at ≤ first_offset (byte_before at b ts)
from_kind at b ts (word_kind g same) h = rw (same ts, starts_word_at at b ts) (omega arith)
from_kind at b ts (single_kind g s there w n same) h = rw (same ts, there) (omega arith)
from_kind at b ts (skip_kind same) h = rw (same ts) h

starts_from : (at : ℕ) (bs : Bytes) → at ≤ first_offset (tokens_from at bs)
starts_from at [] = omega arith
starts_from at (b ∷ bs) = from_kind at b (tokens_from (at + 1) bs) (kind_of at b) (omega (arith, starts_from (at + 1) bs))

byte_starts : (at b : ℕ) (ts : List Token) → goes_on b ≡ false → first_offset (byte_before at b ts) ≡ at
byte_starts at b ts g = grind (arith, starts_word_at at b ts)

-- the offset of the end
abbrev end_offset : List Token → ℕ
end_offset [] = 0
end_offset (end e ∷ ts) = e
end_offset (t ∷ ts) = end_offset ts

end_behind : (s : Token) (ts : List Token) → is_end s ≡ false → end_offset (s ∷ ts) ≡ end_offset ts
end_behind s ts h = grind arith

end_of_word : (at b : ℕ) (ts : List Token) → end_offset (word_before at b ts) ≡ end_offset ts
end_of_word at b ts = grind arith

end_of_kind : (at b : ℕ) (ts : List Token) → ByteKind at b → end_offset (byte_before at b ts) ≡ end_offset ts
end_of_kind at b ts (word_kind g same) = rw (same ts) (end_of_word at b ts)
end_of_kind at b ts (single_kind g s there w n same) = rw (same ts) (end_behind s ts n)
end_of_kind at b ts (skip_kind same) = rw (same ts) refl

ends_at : (at : ℕ) (bs : Bytes) → end_offset (tokens_from at bs) ≡ at + length bs
ends_at at [] = omega arith
ends_at at (b ∷ bs) = end_of_kind at b (tokens_from (at + 1) bs) (kind_of at b) ∙ omega (arith, ends_at (at + 1) bs)

end_there : (us : List Token) (e : ℕ) → NoEnd us → end_offset (us ++ end e ∷ []) ≡ e
end_there [] e h = refl
end_there (u ∷ us) e h = end_behind u (us ++ end e ∷ []) h.0 ∙ end_there us e h.1

-- ---- bytes further on

byte_moved : (n b : ℕ) (ts : List Token) → byte_before (n + 2) b (map (moved 2) ts) ≡ map (moved 2) (byte_before n b ts)
byte_moved n b ts = grind arith

pub tokens_moved : (n : ℕ) (bs : Bytes) → tokens_from (n + 2) bs ≡ map (moved 2) (tokens_from n bs)
tokens_moved n [] = refl
tokens_moved n (b ∷ bs) =
    let on : n + 2 + 1 ≡ n + 1 + 2 = omega arith in
    ap (λ m. byte_before (n + 2) b (tokens_from m bs)) on
    ∙ (ap (byte_before (n + 2) b) (tokens_moved (n + 1) bs) ∙ byte_moved n b (tokens_from (n + 1) bs))

-- ---- words

word_byte_ascii : (b : ℕ) → is_word_byte b ≡ true → b < 128
word_byte_ascii b h = grind arith

no_mid : (b : ℕ) → (128 ≤ b → 192 ≤ b) → goes_on b ≡ false
no_mid b h = grind (arith, h)

-- a word before a byte that is none of it
whole_word : (w : Bytes) (at : ℕ) (rest : Bytes) → list_all is_word_byte w ≡ true → 1 ≤ length w → ((n : ℕ) → starts_word (tokens_from n rest) ≡ false) →
    tokens_from at (w ++ rest) ≡ word at w ∷ tokens_from (at + length w) rest
whole_word [] at rest h l none = absurd (omega (arith, l))
whole_word (b ∷ []) at rest h l none =
    let (first, others) = and_parts (is_word_byte b) true h in
    let here : byte_before at b (tokens_from (at + 1) rest) ≡ word_before at b (tokens_from (at + 1) rest) = rw first refl in
    here ∙ alone at b (tokens_from (at + 1) rest) (none (at + 1))
whole_word (b ∷ c ∷ w) at rest h l none =
    let (first, others) = and_parts (is_word_byte b) (list_all is_word_byte (c ∷ w)) h in
    let here : (ts : List Token) → byte_before at b ts ≡ word_before at b ts = λ ts. rw first refl in
    let on : at + 1 + length (c ∷ w) ≡ at + length (b ∷ c ∷ w) = omega arith in
    here (tokens_from (at + 1) ((c ∷ w) ++ rest))
    ∙ (ap (word_before at b) (whole_word (c ∷ w) (at + 1) rest others (omega arith) none)
    ∙ ap (λ n. word at (b ∷ c ∷ w) ∷ tokens_from n rest) on)

-- whether a word begins tokens
data FirstWord (ts : List Token) : Type 0 where
  word_first : (n : ℕ) → (w : Bytes) → (later : List Token) → ts ≡ word n w ∷ later → FirstWord ts
  not_first : starts_word ts ≡ false → FirstWord ts

first_word : (ts : List Token) → FirstWord ts
first_word (word n w ∷ ts) = word_first n w ts refl
first_word ts = not_first refl

-- the bytes behind the front of a word
pub record Behind (a : ℕ) (pre post : Bytes) (back : List Token) (bytes : Bytes) : Type 0 where
  pub rest : Bytes
  pub split : bytes ≡ pre ++ rest
  pub same : tokens_from (a + length pre) rest ≡ word (a + length pre) post ∷ back
  pub utf8 : IsUtf8 rest

past_ascii : (b : ℕ) (bs : Bytes) → b < 128 → IsUtf8 (b ∷ bs) → IsUtf8 bs
past_ascii b bs h u = IsUtf8-past_char (b ∷ bs) bs b u (ap (λ r. r ++ bs) (sym (encode_ascii b h)))

next_starts : (b : ℕ) (bs : Bytes) (at : ℕ) → b < 128 → IsUtf8 (b ∷ bs) → first_offset (tokens_from at bs) ≡ at
next_starts b [] at h u = refl
next_starts b (c ∷ bs) at h u =
    let after = IsCharBoundary-after_ascii (b ∷ c ∷ bs) 0 u (omega arith) (omega (arith, h)) in
    byte_starts at c (tokens_from (at + 1) bs) (no_mid c (λ l. after.1 (omega arith) l))

-- the first byte of a word
record FirstByte (a p : ℕ) (w : Bytes) (back : List Token) (bs : Bytes) (b : ℕ) : Type 0 where
  pub same : b ≡ p
  pub ascii : b < 128
  pub later : (n : ℕ) × (tokens_from (a + 1) bs ≡ word n w ∷ back)

module _ (a p q : ℕ) (w : Bytes) (back : List Token) (b : ℕ) (bs : Bytes) where
  joined_byte : FirstWord (tokens_from (a + 1) bs) → word_before a b (tokens_from (a + 1) bs) ≡ word a (p ∷ q ∷ w) ∷ back → is_word_byte b ≡ true → FirstByte a p (q ∷ w) back bs b
  joined_byte (word_first n v later e) h is =
      let k : word a (b ∷ v) ∷ later ≡ word a (p ∷ q ∷ w) ∷ back = sym (ap (word_before a b) e) ∙ h in
      record {
        same = cc k;
        ascii = word_byte_ascii b is;
        later = let v_is : v ≡ q ∷ w = cc k in let back_is : later ≡ back = cc k in (n, e ∙ (ap (λ u. word n u ∷ later) v_is ∙ ap (λ r. word n (q ∷ w) ∷ r) back_is));
      }
  joined_byte (not_first f) h is =
      let k : word a (b ∷ []) ∷ tokens_from (a + 1) bs ≡ word a (p ∷ q ∷ w) ∷ back = sym (alone a b (tokens_from (a + 1) bs) f) ∙ h in
      absurd (cc k)

  word_or_not : (t : Bool) → is_word_byte b ≡ t → ByteKind a b → byte_before a b (tokens_from (a + 1) bs) ≡ word a (p ∷ q ∷ w) ∷ back → FirstByte a p (q ∷ w) back bs b
  word_or_not true is kind h =
      let here : byte_before a b (tokens_from (a + 1) bs) ≡ word_before a b (tokens_from (a + 1) bs) = rw is refl in
      joined_byte (first_word (tokens_from (a + 1) bs)) (sym here ∙ h) is
  word_or_not false is (word_kind g same) h =
      let k : byte_before a b [] ≡ word a (b ∷ []) ∷ [] = same [] in absurd (grind (arith, k, is))
  word_or_not false is (single_kind g s there plain n same) h =
      let k : s ∷ tokens_from (a + 1) bs ≡ word a (p ∷ q ∷ w) ∷ back = sym (same (tokens_from (a + 1) bs)) ∙ h in
      let s_is : s ≡ word a (p ∷ q ∷ w) = cc k in
      absurd (cc (sym plain ∙ ap is_word s_is))
  word_or_not false is (skip_kind same) h =
      let k : tokens_from (a + 1) bs ≡ word a (p ∷ q ∷ w) ∷ back = sym (same (tokens_from (a + 1) bs)) ∙ h in
      absurd (omega (arith, starts_from (a + 1) bs, ap first_offset k))

pub behind : (pre : Bytes) (first : ℕ) (rest : Bytes) (back : List Token) (a : ℕ) (bytes : Bytes) → IsUtf8 bytes →
    tokens_from a bytes ≡ word a (pre ++ first ∷ rest) ∷ back → Behind a pre (first ∷ rest) back bytes
behind [] first rest back a bytes u h =
    let on : a ≡ a + 0 = omega arith in
    record { rest = bytes; split = refl; same = subst (λ n. tokens_from n bytes ≡ word n (first ∷ rest) ∷ back) on h; utf8 = u }
behind (p ∷ pre) first rest back a [] u h = absurd (cc h)
behind (p ∷ []) first rest back a (b ∷ bs) u h =
    let f = word_or_not a p first rest back b bs (is_word_byte b) refl (kind_of a b) h in
    let (n, e) = f.later in
    let n_is : n ≡ a + 1 = sym (ap first_offset e) ∙ next_starts b bs (a + 1) f.ascii u in
    record {
      rest = bs;
      split = ap (λ c. c ∷ bs) f.same;
      same = subst (λ m. tokens_from (a + 1) bs ≡ word m (first ∷ rest) ∷ back) n_is e;
      utf8 = past_ascii b bs f.ascii u;
    }
behind (p ∷ q ∷ pre) first rest back a (b ∷ bs) u h =
    let f = word_or_not a p q (pre ++ first ∷ rest) back b bs (is_word_byte b) refl (kind_of a b) h in
    let (n, e) = f.later in
    let n_is : n ≡ a + 1 = sym (ap first_offset e) ∙ next_starts b bs (a + 1) f.ascii u in
    let inner = behind (q ∷ pre) first rest back (a + 1) bs (past_ascii b bs f.ascii u)
    (subst (λ m. tokens_from (a + 1) bs ≡ word m ((q ∷ pre) ++ first ∷ rest) ∷ back) n_is e) in
    let on : a + 1 + length (q ∷ pre) ≡ a + length (p ∷ q ∷ pre) = omega arith in
    record {
      rest = inner.rest;
      split = ap (λ r. b ∷ r) inner.split ∙ ap (λ c. c ∷ ((q ∷ pre) ++ inner.rest)) f.same;
      same = subst (λ m. tokens_from m inner.rest ≡ word m (first ∷ rest) ∷ back) on inner.same;
      utf8 = inner.utf8;
    }

-- ---- the text with the letter

-- tokens of which a word has a byte, and the bytes with a letter and a colon before it
pub record Put (text : Bytes) (at l : ℕ) (front : List Token) (start : ℕ) (pre post : Bytes) (back : List Token) : Type 0 where
  pub utf8 : IsUtf8 (take at text ++ l ∷ 58 ∷ drop at text)
  pub same : tokens (take at text ++ l ∷ 58 ∷ drop at text)
      ≡ front ++ word start (pre ++ l ∷ []) ∷ colon (at + 1) ∷ word (at + 2) post ∷ map (moved 2) back

not_joined : (w q : Bool) → w ≡ false → (w && q) ≡ false
not_joined w q h = rw h refl

colon_stands : (n : ℕ) (bs : Bytes) → tokens_from n (58 ∷ bs) ≡ colon n ∷ tokens_from (n + 1) bs
colon_stands n bs = refl

letter_put : (l : ℕ) (pre post : Bytes) (back : List Token) (start : ℕ) (rest : Bytes) → list_all is_word_byte (pre ++ l ∷ []) ≡ true →
    tokens_from (start + length pre) rest ≡ word (start + length pre) post ∷ back →
    tokens_from start ((pre ++ l ∷ []) ++ 58 ∷ rest)
    ≡ word start (pre ++ l ∷ []) ∷ colon (start + length pre + 1) ∷ word (start + length pre + 2) post ∷ map (moved 2) back
letter_put l pre post back start rest words h =
    let long : start + length (pre ++ l ∷ []) ≡ start + length pre + 1 = omega (arith, length-append pre (l ∷ [])) in
    let on : start + length pre + 1 + 1 ≡ start + length pre + 2 = omega arith in
    whole_word (pre ++ l ∷ []) start (58 ∷ rest) words (omega (arith, length-append pre (l ∷ []))) (λ n. refl)
    ∙ ap (λ (r : List Token). word start (pre ++ l ∷ []) ∷ r)
    (ap (λ n. tokens_from n (58 ∷ rest)) long
    ∙ (colon_stands (start + length pre + 1) rest
    ∙ ap (λ (r : List Token). colon (start + length pre + 1) ∷ r)
    (ap (λ n. tokens_from n rest) on ∙ (tokens_moved (start + length pre) rest ∙ ap (map (moved 2)) h))))

words_of_both : (pre : Bytes) (l : ℕ) → list_all is_word_byte pre ≡ true → is_word_byte l ≡ true → list_all is_word_byte (pre ++ l ∷ []) ≡ true
words_of_both [] l h k = rw k refl
words_of_both (p ∷ pre) l h k = let (own, others) = and_parts (is_word_byte p) (list_all is_word_byte pre) h in rw own (words_of_both pre l others k)

words_ascii : (w : Bytes) → list_all is_word_byte w ≡ true → IsUtf8 w
words_ascii [] h = ascii_is_utf8 [] refl
words_ascii (b ∷ w) h =
    let (own, others) = and_parts (is_word_byte b) (list_all is_word_byte w) h in
    IsUtf8-append (b ∷ []) w (one_ascii b (word_byte_ascii b own)) (words_ascii w others)
  where
    one_ascii : (b : ℕ) → b < 128 → IsUtf8 (b ∷ [])
    one_ascii b h = grind (arith, h, ascii_is_utf8 (b ∷ []))

pub put : (text : Bytes) (l first : ℕ) (rest : Bytes) (front : List Token) (start : ℕ) (pre : Bytes) (back : List Token) (at : ℕ) → IsUtf8 text →
    is_word_byte l ≡ true → list_all is_word_byte pre ≡ true → ends_word front ≡ false → start + length pre ≡ at →
    tokens text ≡ front ++ word start (pre ++ first ∷ rest) ∷ back → Put text at l front start pre (first ∷ rest) back
put text l first rest front start pre back at utf8 is words apart place split =
    let c : Cut 0 text front (word start (pre ++ first ∷ rest)) = cut text 0 front (word start (pre ++ first ∷ rest)) back split in
    let none = not_joined (ends_word front) in
    let all : tokens_from 0 (c.front ++ c.rest) ≡ front ++ tokens_from start c.rest = c.same c.rest (none (starts_word (tokens_from start c.rest)) apart) in
    let behind_cut : tokens_from start c.rest ≡ word start (pre ++ first ∷ rest) ∷ back =
    append_cancel_left front (tokens_from start c.rest) (word start (pre ++ first ∷ rest) ∷ back) (sym all ∙ (ap (tokens_from 0) (sym c.split) ∙ split)) in
    let only : tokens_from 0 (c.front ++ []) ≡ front ++ end start ∷ [] = c.same [] (none false apart) in
    let long : length c.front ≡ start =
    omega (arith, ends_at 0 c.front) ∙ (ap end_offset (ap (tokens_from 0) (sym (append-nil c.front)) ∙ only) ∙ end_there front start c.no_end) in
    let front_utf8 = front_is_utf8 c utf8 in
    let whole : IsUtf8 (c.front ++ c.rest) = subst IsUtf8 c.split utf8 in
    let taken : take (length c.front) (c.front ++ c.rest) ≡ c.front = take_at c.front c.rest (length c.front) refl in
    let rest_utf8 : IsUtf8 c.rest =
    subst IsUtf8 (drop_at c.front c.rest (length c.front) refl)
    (IsUtf8-drop (c.front ++ c.rest) (length c.front) whole
    (IsCharBoundary-from_take (c.front ++ c.rest) (length c.front) whole (omega (arith, length-append c.front c.rest)) (subst IsUtf8 (sym taken) front_utf8))) in
    let b = behind pre first rest back start c.rest rest_utf8 behind_cut in
    let text_is : text ≡ (c.front ++ pre) ++ b.rest = c.split ∙ (ap (λ r. c.front ++ r) b.split ∙ sym (append_assoc c.front pre b.rest)) in
    let at_is : length (c.front ++ pre) ≡ at = length-append c.front pre ∙ omega (arith, long, place) in
    let take_is : take at text ≡ c.front ++ pre = ap (take at) text_is ∙ take_at (c.front ++ pre) b.rest at at_is in
    let drop_is : drop at text ≡ b.rest = ap (drop at) text_is ∙ drop_at (c.front ++ pre) b.rest at at_is in
    let new_is : take at text ++ l ∷ 58 ∷ drop at text ≡ c.front ++ ((pre ++ l ∷ []) ++ 58 ∷ b.rest) =
    ap (λ r. r ++ l ∷ 58 ∷ drop at text) take_is
    ∙ (ap (λ r. (c.front ++ pre) ++ l ∷ 58 ∷ r) drop_is
    ∙ (append_assoc c.front pre (l ∷ 58 ∷ b.rest) ∙ ap (λ r. c.front ++ r) (sym (append_assoc pre (l ∷ []) (58 ∷ b.rest))))) in
    let both = words_of_both pre l words is in
    record {
      utf8 = subst IsUtf8 (sym new_is) (IsUtf8-append c.front ((pre ++ l ∷ []) ++ 58 ∷ b.rest) front_utf8
          (IsUtf8-append (pre ++ l ∷ []) (58 ∷ b.rest) (words_ascii (pre ++ l ∷ []) both) (IsUtf8-append (58 ∷ []) b.rest (ascii_is_utf8 (58 ∷ []) refl) b.utf8)));
      same = ap tokens new_is
          ∙ (c.same ((pre ++ l ∷ []) ++ 58 ∷ b.rest) (none (starts_word (tokens_from start ((pre ++ l ∷ []) ++ 58 ∷ b.rest))) apart)
          ∙ ap (λ r. front ++ r) (subst (λ n. tokens_from start ((pre ++ l ∷ []) ++ 58 ∷ b.rest) ≡ word start (pre ++ l ∷ []) ∷ colon (n + 1) ∷ word (n + 2) (first ∷ rest) ∷ map (moved 2) back) place
          (letter_put l pre (first ∷ rest) back start b.rest both b.same)));
    }
