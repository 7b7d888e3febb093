-- The words of a spelled text that are keys are keys of its tree, in order, and no other word is as long.
use Rattle.std.proofs.Common.{◌≡◌, ℕ, ◌*◌, ◌<◌, ◌≤◌, Bool, true, false, List, [], ◌∷◌, ◌++◌, length, append-nil, append_assoc, codes, Option, Some, None, refl, sym, ap, ◌∙◌, subst, arith}
use Rattle.std.specs.Prelude.{⊤, if◌then◌else◌}
use Rattle.std.specs.List.{AllByRecursion}
use Rattle.std.specs.Str.Parse.{digits_value}
use Rattle.std.proofs.lemmas.Bool.{eqb-true}
use Rattle.hex.specs.Hex.{decode_of}
use Rattle.hex.proofs.HexLemmas.{decode_of-ok}
use Rattle.def_script.specs.Bytes.{Bytes}
use Rattle.def_hash.specs.Hash.{digest_length}
use Rattle.def_hash.specs.declared.HashKind.{HashKind}
use Rattle.def_tree.specs.declared.Two.{Two}
use Rattle.def_tree.specs.Tree.{Key, Tree, Trees}
use Rattle.def_sane.specs.Keys.{keys, keys_of_all}
use Rattle.def_text.specs.Token.{Token, word, opening, closing, comma, colon, end}
use Rattle.def_text.specs.Word.{is_number, key_of, number_of, is_digest, hash_of, hash_name, two_name}
use Rattle.def_text.specs.Letter.{Letter, letter_of_wrapper, letter_t, letter_l, letter_u, letter_byte, letter_word, letters_tree}
use Rattle.def_text.specs.Spells.{call, Spells, text_0, text_1, text_pk_k, text_pk_h, text_pk, text_pkh, text_older, text_after, text_hash, text_andor, text_two, text_and_n, text_thresh, text_multi, text_letters, SpellsChildren, last_child, next_child, SpellsKeys, last_key, next_key, SpellsText, text_whole}
use Rattle.def_text.specs.Scaffolding.Reader.{LETTERS, first_letter, letters_of}
use Rattle.ms_key_laws.proofs.Words.{decoded, key_size, short_number}
use Rattle.ms_known_laws.proofs.Parts.{IsPart, one_key, other_key, none_part, part_both}

-- the key that a word is, unless it is a group of letters
abbrev key_by : Option (List Letter) → Option Key → List Key
key_by None (Some key) = key ∷ []
key_by None None = []
key_by (Some letters) key = []

abbrev pub token_keys : Token → List Key
token_keys (word at w) = key_by (letters_of w) (key_of w)
token_keys t = []

abbrev pub keys_in : List Token → List Key
keys_in [] = []
keys_in (t ∷ ts) = token_keys t ++ keys_in ts

-- a word that is longer than a key, and no group of letters
pub record IsLonger (w : Bytes) : Type 0 where
  pub long : 66 < length w
  pub no_letters : letters_of w ≡ None

abbrev pub IsNoLonger : Token → Type 0
IsNoLonger (word at w) = IsLonger w → ⊥
IsNoLonger t = ⊤

-- tokens whose keys are among these
pub record AreOf (ts : List Token) (own : List Key) : Type 0 where
  pub part : IsPart (keys_in ts) own
  pub short : AllByRecursion IsNoLonger ts

-- ---- words

short_key : (w : Bytes) (o : Option Key) → key_of w ≡ o → length w ≤ 65 → o ≡ None
short_key w None e h = refl
short_key w (Some key) e h = let size : length w ≡ 66 = key_size w key e in absurd (omega arith)

by_none : (o : Option (List Letter)) → key_by o None ≡ []
by_none None = refl
by_none (Some letters) = refl

short_word : (at : ℕ) (w : Bytes) → length w ≤ 65 → token_keys (word at w) ≡ []
short_word at w h = ap (key_by (letters_of w)) (short_key w (key_of w) refl h) ∙ by_none (letters_of w)

short_no_longer : (w : Bytes) → length w ≤ 66 → IsLonger w → ⊥
short_no_longer w h g = let long : 66 < length w = g.long in absurd (omega arith)

number_is : (w : Bytes) (n : ℕ) (b : Bool) → is_number w ≡ b → (if b then Some (digits_value 10 w) else None) ≡ Some n → length w ≤ 65
number_is w n true e h = let short : length w ≤ 10 = short_number w e in omega arith
number_is w n false e h = absurd (cc)

number_short : (w : Bytes) (n : ℕ) → number_of w ≡ Some n → length w ≤ 65
number_short w n h = number_is w n (is_number w) refl h

short_digest : (kind : HashKind) → digest_length kind ≤ 32
short_digest kind = grind arith

hash_short : (kind : HashKind) (w value : Bytes) → hash_of kind w ≡ Some value → length w ≤ 65
hash_short kind w value h =
    let (ok, passed) = decoded (is_digest kind) (decode_of w) value h in
    let twice : length w ≡ 2 * length value = (decode_of-ok w value ok).2 in
    let size : length value ≡ digest_length kind = eqb-true (length value) (digest_length kind) passed in
    let short : digest_length kind ≤ 32 = short_digest kind in
    omega arith

first_letter_of : (l : Letter) → first_letter (letter_byte l) LETTERS ≡ Some l
first_letter_of l = grind arith

letters_of_word : (ls : List Letter) → letters_of (letter_word ls) ≡ Some ls
letters_of_word [] = refl
letters_of_word (l ∷ ls) = rw (first_letter_of l, letters_of_word ls) refl

-- ---- tokens before others

none_of : (own : List Key) → AreOf [] own
none_of own = record { part = none_part own; short = tt }

behind_token : (t : Token) {ts : List Token} {own : List Key} → token_keys t ≡ [] → IsNoLonger t → AreOf ts own → AreOf (t ∷ ts) own
behind_token t {ts = ts} {own = own} e h g = record { part = subst (λ z. IsPart (z ++ keys_in ts) own) (sym e) g.part; short = (h, g.short) }

behind_word : (at : ℕ) (w : Bytes) {ts : List Token} {own : List Key} → length w ≤ 65 → AreOf ts own → AreOf (word at w ∷ ts) own
behind_word at w h g = behind_token (word at w) (short_word at w h) (short_no_longer w (omega arith)) g

one_by : (o : Option (List Letter)) (key : Key) {some own : List Key} → IsPart some own → IsPart (key_by o (Some key) ++ some) (key ∷ own)
one_by None key h = one_key key h
one_by (Some letters) key h = other_key key h

behind_key : (at : ℕ) (w : Bytes) (key : Key) {ts : List Token} {own : List Key} → key_of w ≡ Some key → AreOf ts own → AreOf (word at w ∷ ts) (key ∷ own)
behind_key at w key {ts = ts} {own = own} e g =
    let size : length w ≡ 66 = key_size w key e in
    record {
      part = subst (λ z. IsPart (key_by (letters_of w) z ++ keys_in ts) (key ∷ own)) (sym e) (one_by (letters_of w) key g.part);
      short = (short_no_longer w (omega arith), g.short);
    }

keys_in_both : (ts us : List Token) → keys_in (ts ++ us) ≡ keys_in ts ++ keys_in us
keys_in_both [] us = refl
keys_in_both (t ∷ ts) us = ap (λ z. token_keys t ++ z) (keys_in_both ts us) ∙ sym (append_assoc (token_keys t) (keys_in ts) (keys_in us))

all_both : (ts us : List Token) → AllByRecursion IsNoLonger ts → AllByRecursion IsNoLonger us → AllByRecursion IsNoLonger (ts ++ us)
all_both [] us h g = g
all_both (t ∷ ts) us h g = (h.0, all_both ts us h.1 g)

both_of : {ts us : List Token} {own more : List Key} → AreOf ts own → AreOf us more → AreOf (ts ++ us) (own ++ more)
both_of {ts = ts} {us = us} {own = own} {more = more} h g = record {
  part = subst (λ z. IsPart z (own ++ more)) (sym (keys_in_both ts us)) (part_both h.part g.part);
  short = all_both ts us h.short g.short;
}

-- a call, with a short name
closed : {ts : List Token} {own : List Key} (d : ℕ) → AreOf ts own → AreOf (ts ++ closing d ∷ []) own
closed {ts = ts} {own = own} d h = subst (AreOf (ts ++ closing d ∷ [])) (append-nil own) (both_of h (behind_token (closing d) refl tt (none_of [])))

called : (a : ℕ) (name : Bytes) (b : ℕ) {ts : List Token} {own : List Key} (d : ℕ) → length name ≤ 65 → AreOf ts own → AreOf (call a name b ts d) own
called a name b d short h = behind_word a name short (behind_token (opening b) refl tt (closed d h))

-- behind a comma
next : {ts us : List Token} {own more : List Key} (c : ℕ) → AreOf ts own → AreOf us more → AreOf (ts ++ comma c ∷ us) (own ++ more)
next c h g = both_of h (behind_token (comma c) refl tt g)

lone : (a : ℕ) (w : Bytes) (key : Key) → key_of w ≡ Some key → AreOf (word a w ∷ []) (key ∷ [])
lone a w key e = behind_key a w key e (none_of [])

keys_of_letters : (ls : List Letter) (x : Tree) → keys (letters_tree ls x) ≡ keys x
keys_of_letters [] x = refl
keys_of_letters (letter_of_wrapper wrapper ∷ ls) x = keys_of_letters ls x
keys_of_letters (letter_t ∷ ls) x = append-nil (keys (letters_tree ls x)) ∙ keys_of_letters ls x
keys_of_letters (letter_l ∷ ls) x = keys_of_letters ls x
keys_of_letters (letter_u ∷ ls) x = append-nil (keys (letters_tree ls x)) ∙ keys_of_letters ls x

short_hash_name : (kind : HashKind) → length (hash_name kind) ≤ 65
short_hash_name kind = grind arith

short_two_name : (kind : Two) → length (two_name kind) ≤ 65
short_two_name kind = grind arith

-- ---- texts

keys_are : {ts : List Token} {own : List Key} → SpellsKeys ts own → AreOf ts own
keys_are (last_key {c = c} {d = d} {w = w} {key = key} e) = behind_token (comma c) refl tt (lone d w key e)
keys_are (next_key {c = c} {d = d} {w = w} {key = key} e h) = behind_token (comma c) refl tt (behind_key d w key e (keys_are h))

mutual
  tree_is : {ts : List Token} {x : Tree} {os : List ℕ} → Spells ts x os → AreOf ts (keys x)
  tree_is (text_0 {a = a}) = behind_word a (codes "0") (omega arith) (none_of [])
  tree_is (text_1 {a = a}) = behind_word a (codes "1") (omega arith) (none_of [])
  tree_is (text_pk_k {a = a} {b = b} {c = c} {d = d} {w = w} {key = key} e) = called a (codes "pk_k") b d (omega arith) (lone c w key e)
  tree_is (text_pk_h {a = a} {b = b} {c = c} {d = d} {w = w} {key = key} e) = called a (codes "pk_h") b d (omega arith) (lone c w key e)
  tree_is (text_pk {a = a} {b = b} {c = c} {d = d} {w = w} {key = key} e) = called a (codes "pk") b d (omega arith) (lone c w key e)
  tree_is (text_pkh {a = a} {b = b} {c = c} {d = d} {w = w} {key = key} e) = called a (codes "pkh") b d (omega arith) (lone c w key e)
  tree_is (text_older {a = a} {b = b} {c = c} {d = d} {w = w} {n = n} e) =
      called a (codes "older") b d (omega arith) (behind_word c w (number_short w n e) (none_of []))
  tree_is (text_after {a = a} {b = b} {c = c} {d = d} {w = w} {n = n} e) =
      called a (codes "after") b d (omega arith) (behind_word c w (number_short w n e) (none_of []))
  tree_is (text_hash {a = a} {b = b} {c = c} {d = d} {w = w} kind {value = value} e) =
      called a (hash_name kind) b d (short_hash_name kind) (behind_word c w (hash_short kind w value e) (none_of []))
  tree_is (text_andor {a = a} {b = b} c d e h g k) = called a (codes "andor") b e (omega arith) (next d (next c (tree_is h) (tree_is g)) (tree_is k))
  tree_is (text_two {a = a} {b = b} kind c d h g) = called a (two_name kind) b d (short_two_name kind) (next c (tree_is h) (tree_is g))
  tree_is (text_and_n {a = a} {b = b} c d {x = x} {y = y} h g) =
      subst (AreOf (call a (codes "and_n") b _ d)) (sym (append-nil (keys x ++ keys y))) (called a (codes "and_n") b d (omega arith) (next c (tree_is h) (tree_is g)))
  tree_is (text_thresh {a = a} {b = b} {c = c} d {w = w} {k = k} e h) =
      called a (codes "thresh") b d (omega arith) (behind_word c w (number_short w k e) (children_are h))
  tree_is (text_multi {a = a} {b = b} {c = c} d {w = w} {k = k} e h) =
      called a (codes "multi") b d (omega arith) (behind_word c w (number_short w k e) (keys_are h))
  tree_is (text_letters {a = a} {b = b} l ls {x = x} h) =
      let own : letters_of (letter_word (l ∷ ls)) ≡ Some (l ∷ ls) = letters_of_word (l ∷ ls) in
      subst (AreOf (word a (letter_word (l ∷ ls)) ∷ colon b ∷ _)) (sym (keys_of_letters (l ∷ ls) x))
      (behind_token (word a (letter_word (l ∷ ls))) (ap (λ z. key_by z (key_of (letter_word (l ∷ ls)))) own) (λ longer. absurd (cc (sym own ∙ longer.no_letters)))
      (behind_token (colon b) refl tt (tree_is h)))

  children_are : {ts : List Token} {xs : Trees} {os : List ℕ} → SpellsChildren ts xs os → AreOf ts (keys_of_all xs)
  children_are (last_child {c = c} {x = x} h) = behind_token (comma c) refl tt (subst (AreOf _) (sym (append-nil (keys x))) (tree_is h))
  children_are (next_child {c = c} h g) = behind_token (comma c) refl tt (both_of (tree_is h) (children_are g))

pub text_is : {ts : List Token} {x : Tree} {os : List ℕ} → SpellsText ts x os → AreOf ts (keys x)
text_is (text_whole {x = x} e h) = subst (AreOf _) (append-nil (keys x)) (both_of (tree_is h) (behind_token (end e) refl tt (none_of [])))
