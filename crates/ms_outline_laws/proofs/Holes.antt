-- Where a letter can be put into the tokens of a tree: what they spell then.
use Rattle.std.proofs.Common.{◌≡◌, ℕ, ◌+◌, ◌≤◌, true, false, List, [], ◌∷◌, ◌++◌, map, length, refl, sym, ap, ◌∙◌, subst, arith}
use Rattle.std.specs.List.{list_all}
use Rattle.std.proofs.lemmas.List.{map-append, append_assoc}
use Rattle.def_script.specs.Bytes.{Bytes}
use Rattle.def_hash.specs.declared.HashKind.{HashKind}
use Rattle.def_tree.specs.declared.Two.{Two}
use Rattle.def_tree.specs.Tree.{Tree}
use Rattle.def_text.specs.Token.{Token, word, opening, closing, comma, colon, is_word_byte}
use Rattle.def_text.specs.Word.{hash_name, two_name}
use Rattle.def_text.specs.Letter.{Letter, letter_of_wrapper, letter_t, letter_l, letter_u, letter_byte, letter_word, letter_tree, letter_offsets, letters_tree, letters_offsets}
use Rattle.def_text.specs.Spells.{Spells, text_0, text_1, text_pk_k, text_pk_h, text_pk, text_pkh, text_older, text_after, text_hash, text_andor, text_two, text_and_n, text_thresh, text_multi, text_letters}
use Rattle.def_text.proofs.Cut.{is_word, ends_word}
use Rattle.ms_outline_laws.proofs.Moved.{moved, SpellsTree, moves}

-- tokens of which a word has a byte at this place: with the letter and a colon before that byte they are as wanted
pub record Hole (L : Letter) (ts : List Token) (at : ℕ) (P : List Token → Type 0) : Type 0 where
  pub front : List Token
  pub back : List Token
  pub start : ℕ
  pub pre : Bytes
  pub first : ℕ
  pub rest : Bytes
  pub split : ts ≡ front ++ word start (pre ++ first ∷ rest) ∷ back
  pub place : start + length pre ≡ at
  pub apart : ends_word front ≡ false
  pub letters : list_all is_word_byte pre ≡ true
  pub wanted : (b : ℕ) → P (front ++ word start (pre ++ letter_byte L ∷ []) ∷ colon b ∷ word (at + 2) (first ∷ rest) ∷ map (moved 2) back)

-- ---- a word at the end

pub ends_append : (p q : List Token) → ends_word p ≡ false → ends_word q ≡ false → ends_word (p ++ q) ≡ false
ends_append [] q h k = k
ends_append (t ∷ []) [] h k = h
ends_append (t ∷ []) (u ∷ q) h k = k
ends_append (t ∷ u ∷ p) q h k = ends_append (u ∷ p) q h k

pub ends_other : (p : List Token) (t : Token) → is_word t ≡ false → ends_word (p ++ t ∷ []) ≡ false
ends_other [] t h = h
ends_other (u ∷ []) t h = h
ends_other (u ∷ v ∷ p) t h = ends_other (v ∷ p) t h

-- ---- a part of the tokens

around : (p f : List Token) (t : Token) (b s : List Token) → p ++ ((f ++ t ∷ b) ++ s) ≡ (p ++ f) ++ t ∷ (b ++ s)
around p f t b s = ap (λ r. p ++ r) (append_assoc f (t ∷ b) s) ∙ sym (append_assoc p f (t ∷ (b ++ s)))

around_three : (p f : List Token) (t u v : Token) (b s : List Token) →
    p ++ ((f ++ t ∷ u ∷ v ∷ b) ++ s) ≡ (p ++ f) ++ t ∷ u ∷ v ∷ (b ++ s)
around_three p f t u v b s = around p f t (u ∷ v ∷ b) s

pub in_part : {L : Letter} {us ts : List Token} {at : ℕ} {P Q : List Token → Type 0} (p s : List Token) → ts ≡ p ++ (us ++ s) →
    ((vs : List Token) → P vs → Q (p ++ (vs ++ map (moved 2) s))) → (h : Hole L us at P) → ends_word (p ++ h.front) ≡ false → Hole L ts at Q
in_part {L = L} {at = at} {Q = Q} p s e goes h ends = record {
  front = p ++ h.front;
  back = h.back ++ s;
  start = h.start;
  pre = h.pre;
  first = h.first;
  rest = h.rest;
  split = e ∙ (ap (λ us. p ++ (us ++ s)) h.split ∙ around p h.front (word h.start (h.pre ++ h.first ∷ h.rest)) h.back s);
  place = h.place;
  apart = ends;
  letters = h.letters;
  wanted = λ b. subst Q
      (around_three p h.front (word h.start (h.pre ++ letter_byte L ∷ [])) (colon b) (word (at + 2) (h.first ∷ h.rest)) (map (moved 2) h.back) (map (moved 2) s)
      ∙ ap (λ r. (p ++ h.front) ++ word h.start (h.pre ++ letter_byte L ∷ []) ∷ colon b ∷ word (at + 2) (h.first ∷ h.rest) ∷ r) (sym (map-append (moved 2) h.back s)))
      (goes (h.front ++ word h.start (h.pre ++ letter_byte L ∷ []) ∷ colon b ∷ word (at + 2) (h.first ∷ h.rest) ∷ map (moved 2) h.back) (h.wanted b));
}

-- ---- before an expression

-- the word that begins an expression has the place of its root
pub record Begins (ts : List Token) (os : List ℕ) : Type 0 where
  pub at : ℕ
  pub first : ℕ
  pub rest : Bytes
  pub back : List Token
  pub init : List ℕ
  pub split : ts ≡ word at (first ∷ rest) ∷ back
  pub last : os ≡ init ++ at ∷ []

begins_at : {ts : List Token} {os : List ℕ} (a c : ℕ) (w : Bytes) (back : List Token) (init : List ℕ) → ts ≡ word a (c ∷ w) ∷ back → os ≡ init ++ a ∷ [] → Begins ts os
begins_at a c w back init e l = record { at = a; first = c; rest = w; back = back; init = init; split = e; last = l }

some_first : (w : Bytes) → 1 ≤ length w → (c : ℕ) × (v : Bytes) × (w ≡ c ∷ v)
some_first [] h = absurd (omega (arith, h))
some_first (c ∷ v) h = (c, v, refl)

two_first : (kind : Two) → (c : ℕ) × (w : Bytes) × (two_name kind ≡ c ∷ w)
two_first kind = some_first (two_name kind) (grind arith)

hash_first : (kind : HashKind) → (c : ℕ) × (w : Bytes) × (hash_name kind ≡ c ∷ w)
hash_first kind = some_first (hash_name kind) (grind arith)

pub letter_last : (a : ℕ) (l : Letter) (os : List ℕ) → (init : List ℕ) × (letter_offsets a l os ≡ init ++ a ∷ [])
letter_last a (letter_of_wrapper w) os = (os, refl)
letter_last a letter_t os = (os ++ a ∷ [], sym (append_assoc os (a ∷ []) (a ∷ [])))
letter_last a letter_l os = (a ∷ os, refl)
letter_last a letter_u os = (os ++ a ∷ [], sym (append_assoc os (a ∷ []) (a ∷ [])))

pub begins : {ts : List Token} {x : Tree} {os : List ℕ} → Spells ts x os → Begins ts os
begins (text_0 {a = a}) = begins_at a _ _ _ [] refl refl
begins (text_1 {a = a}) = begins_at a _ _ _ [] refl refl
begins (text_pk_k {a = a} h) = begins_at a _ _ _ [] refl refl
begins (text_pk_h {a = a} h) = begins_at a _ _ _ [] refl refl
begins (text_pk {a = a} h) = begins_at a _ _ _ (a ∷ []) refl refl
begins (text_pkh {a = a} h) = begins_at a _ _ _ (a ∷ []) refl refl
begins (text_older {a = a} h) = begins_at a _ _ _ [] refl refl
begins (text_after {a = a} h) = begins_at a _ _ _ [] refl refl
begins (text_hash {a = a} {b = b} {c = c} {d = d} {w = w} kind h) =
    let (n, v, e) = hash_first kind in
    begins_at a n v (opening b ∷ word c w ∷ closing d ∷ []) [] (ap (λ m. word a m ∷ opening b ∷ word c w ∷ closing d ∷ []) e) refl
begins (text_andor {a = a} c d e {os = os} {ps = ps} {qs = qs} hx hy hz) =
    begins_at a _ _ _ (os ++ ps ++ qs) refl refl
begins (text_two {a = a} {b = b} kind c d {xs = xs} {ys = ys} {os = os} {ps = ps} hx hy) =
    let (n, v, e) = two_first kind in
    begins_at a n v (opening b ∷ ((xs ++ comma c ∷ ys) ++ closing d ∷ [])) (os ++ ps)
    (ap (λ m. word a m ∷ opening b ∷ ((xs ++ comma c ∷ ys) ++ closing d ∷ [])) e) refl
begins (text_and_n {a = a} c d {os = os} {ps = ps} hx hy) =
    begins_at a _ _ _ (os ++ ps ++ a ∷ []) refl (sym (append_assoc (os ++ ps) (a ∷ []) (a ∷ [])))
begins (text_thresh {a = a} d {os = os} h hx) = begins_at a _ _ _ os refl refl
begins (text_multi {a = a} d h hk) = begins_at a _ _ _ [] refl refl
begins (text_letters {a = a} l ls {os = os} hx) =
    let (init, e) = letter_last a l (letters_offsets (a + 1) ls os) in begins_at a (letter_byte l) (letter_word ls) _ init refl e

pub before_root : {ts : List Token} {x : Tree} {os : List ℕ} (L : Letter) (b : Begins ts os) → Spells ts x os → Hole L ts b.at (SpellsTree (letter_tree L x))
before_root {ts = ts} {x = x} {os = os} L b h = record {
  front = [];
  back = b.back;
  start = b.at;
  pre = [];
  first = b.first;
  rest = b.rest;
  split = b.split;
  place = omega arith;
  apart = refl;
  letters = refl;
  wanted = λ c.
      let (ps, g) = subst (λ us. SpellsTree x (map (moved 2) us)) b.split (moves 2 h) in
      (letters_offsets b.at (L ∷ []) ps, text_letters L [] g);
}

-- ---- in the midst of letters

letters_join : (ls ms : List Letter) (x : Tree) → letters_tree (ls ++ ms) x ≡ letters_tree ls (letters_tree ms x)
letters_join [] ms x = refl
letters_join (l ∷ ls) ms x = ap (letter_tree l) (letters_join ls ms x)

word_join : (ls ms : List Letter) → letter_word (ls ++ ms) ≡ letter_word ls ++ letter_word ms
word_join [] ms = refl
word_join (l ∷ ls) ms = ap (λ r. letter_byte l ∷ r) (word_join ls ms)

word_length : (ls : List Letter) → length (letter_word ls) ≡ length ls
word_length [] = refl
word_length (l ∷ ls) = omega (arith, word_length ls)

pub letter_is_word : (l : Letter) → is_word_byte (letter_byte l) ≡ true
letter_is_word l = grind arith

letters_are_word : (ls : List Letter) → list_all is_word_byte (letter_word ls) ≡ true
letters_are_word [] = refl
letters_are_word (l ∷ ls) = rw (letter_is_word l) (letters_are_word ls)

pub between : {xs : List Token} {x : Tree} {os : List ℕ} (L l : Letter) (ls : List Letter) (m : Letter) (ms : List Letter) (a b at : ℕ) →
    at ≡ a + length (l ∷ ls) → Spells xs x os →
    Hole L (word a (letter_word ((l ∷ ls) ++ m ∷ ms)) ∷ colon b ∷ xs) at (SpellsTree (letters_tree (l ∷ ls) (letter_tree L (letters_tree (m ∷ ms) x))))
between {xs = xs} {x = x} L l ls m ms a b at e h = record {
  front = [];
  back = colon b ∷ xs;
  start = a;
  pre = letter_word (l ∷ ls);
  first = letter_byte m;
  rest = letter_word ms;
  split = ap (λ w. word a w ∷ colon b ∷ xs) (word_join (l ∷ ls) (m ∷ ms));
  place = ap (λ n. a + n) (word_length (l ∷ ls)) ∙ sym e;
  apart = refl;
  letters = letters_are_word (l ∷ ls);
  wanted = λ c.
      let (ps, g) = moves 2 h in
      let inner : SpellsTree (letters_tree (m ∷ ms) x) (word (at + 2) (letter_word (m ∷ ms)) ∷ colon (b + 2) ∷ map (moved 2) xs) =
      (letters_offsets (at + 2) (m ∷ ms) ps, text_letters m ms g) in
      let offsets = letters_offsets a (l ∷ (ls ++ L ∷ [])) inner.0 in
      let behind : List Token = colon c ∷ word (at + 2) (letter_word (m ∷ ms)) ∷ colon (b + 2) ∷ map (moved 2) xs in
      let tree = letters_tree (l ∷ ls) (letter_tree L (letters_tree (m ∷ ms) x)) in (
        offsets,
        subst (λ w. Spells (word a w ∷ behind) tree offsets) (word_join (l ∷ ls) (L ∷ []))
            (subst (λ t. Spells (word a (letter_word ((l ∷ ls) ++ L ∷ [])) ∷ behind) t offsets) (letters_join (l ∷ ls) (L ∷ []) (letters_tree (m ∷ ms) x))
            (text_letters {a = a} {b = c} l (ls ++ L ∷ []) inner.1)),
      );
}
