-- A spelled tree is small: each byte of a text writes at most two nodes or keys.
use Rattle.std.proofs.Common.{◌≡◌, ℕ, ◌+◌, ◌*◌, ◌≤◌, false, List, [], ◌∷◌, ◌++◌, length, arith}
use Rattle.def_script.specs.Bytes.{Bytes}
use Rattle.def_tree.specs.Tree.{Key, Tree, Trees}
use Rattle.def_tree.specs.InRange.{measure, measure_of}
use Rattle.def_text.specs.Token.{Token, word, end, word_before, byte_before, tokens_from, tokens}
use Rattle.def_text.specs.Letter.{Letter, letter_word, letter_tree, letters_tree}
use Rattle.def_text.specs.Spells.{Spells, text_hash, text_andor, text_two, text_and_n, text_thresh, text_multi, text_letters, SpellsChildren, last_child, next_child, SpellsKeys, last_key, next_key, SpellsText, text_whole}
use Rattle.def_text.proofs.Cut.{is_word, ByteKind, word_kind, single_kind, skip_kind, kind_of}

-- ---- how many bytes tokens have

abbrev width : Token → ℕ
width (word a w) = length w
width (end a) = 0
width t = 1

abbrev widths : List Token → ℕ
widths [] = 0
widths (t ∷ ts) = width t + widths ts

widths-append : (ts us : List Token) → widths (ts ++ us) ≡ widths ts + widths us
widths-append [] us = omega arith
widths-append (t ∷ ts) us = omega (arith, widths-append ts us)

wider_word : (at b : ℕ) (ts : List Token) → widths (word_before at b ts) ≤ widths ts + 1
wider_word at b ts = grind arith

most_width : (t : Token) → is_word t ≡ false → width t ≤ 1
most_width t = grind arith

wider_by_kind : (at b : ℕ) (ts : List Token) → ByteKind at b → widths (byte_before at b ts) ≤ widths ts + 1
wider_by_kind at b ts (word_kind starts is) = rw (is ts) (wider_word at b ts)
wider_by_kind at b ts (single_kind starts s there no_word no_end is) = let most = most_width s no_word in rw (is ts) (omega arith)
wider_by_kind at b ts (skip_kind is) = rw (is ts) (omega arith)

-- the tokens of a text have no more bytes than it
widths_within : (bytes : Bytes) (at : ℕ) → widths (tokens_from at bytes) ≤ length bytes
widths_within [] at = omega arith
widths_within (b ∷ bytes) at =
    omega (arith, widths_within bytes (at + 1), wider_by_kind at b (tokens_from (at + 1) bytes) (kind_of at b))

-- ---- trees

letter_measure : (l : Letter) (x : Tree) → measure (letter_tree l x) ≤ measure x + 2
letter_measure l x = grind arith

letters_measure : (ls : List Letter) (x : Tree) → measure (letters_tree ls x) ≤ measure x + 2 * length (letter_word ls)
letters_measure [] x = omega arith
letters_measure (l ∷ ls) x = omega (arith, letters_measure ls x, letter_measure l (letters_tree ls x))

keys_within : {ts : List Token} {keys : List Key} → SpellsKeys ts keys → length keys ≤ widths ts
keys_within (last_key h) = omega arith
keys_within (next_key h later) = omega (arith, keys_within later)

mutual
  within : {ts : List Token} {x : Tree} {os : List ℕ} → Spells ts x os → measure x ≤ 2 * widths ts
  within (text_hash kind h) = simp widths-append (omega arith)
  within (text_andor c d e hx hy hz) = simp widths-append (omega (arith, within hx, within hy, within hz))
  within (text_two kind c d hx hy) = simp widths-append (omega (arith, within hx, within hy))
  within (text_and_n c d hx hy) = simp widths-append (omega (arith, within hx, within hy))
  within (text_thresh d h hx) = simp widths-append (omega (arith, children_within hx))
  within (text_multi d h hk) = simp widths-append (omega (arith, keys_within hk))
  within (text_letters l ls {x = x} hx) = omega (arith, within hx, letters_measure (l ∷ ls) x)
  within h = omega arith

  children_within : {ts : List Token} {xs : Trees} {os : List ℕ} → SpellsChildren ts xs os → measure_of xs ≤ 2 * widths ts
  children_within (last_child hx) = omega (arith, within hx)
  children_within (next_child hx hy) = simp widths-append (omega (arith, within hx, children_within hy))

pub spelled_measure : {ts : List Token} {x : Tree} {os : List ℕ} → SpellsText ts x os → measure x ≤ 2 * widths ts
spelled_measure (text_whole e h) = simp widths-append (omega (arith, within h))

-- a tree that a text spells
pub measure_of_text : (text : Bytes) (x : Tree) (os : List ℕ) → SpellsText (tokens text) x os → measure x ≤ 2 * length text
measure_of_text text x os h = omega (arith, spelled_measure h, widths_within text 0)
