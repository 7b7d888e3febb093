-- Each node has an offset.
use Rattle.std.proofs.Common.{◌≡◌, ℕ, ◌+◌, List, [], ◌∷◌, length, refl, length-append, arith}
use Rattle.def_tree.specs.Tree.{Tree, Trees}
use Rattle.def_tree.specs.Size.{nodes, nodes_of}
use Rattle.def_text.specs.Token.{Token}
use Rattle.def_text.specs.Letter.{Letter, letter_tree, letter_offsets, letters_tree, letters_offsets}
use Rattle.def_text.specs.Spells.{Spells, text_andor, text_two, text_and_n, text_thresh, text_letters, SpellsChildren, last_child, next_child, SpellsText, text_whole}

letter_count : (l : Letter) (a : ℕ) (x : Tree) (os : List ℕ) → length os ≡ nodes x →
    length (letter_offsets a l os) ≡ nodes (letter_tree l x)
letter_count l a x os = grind (arith, length-append os)

letters_count : (ls : List Letter) (a : ℕ) (x : Tree) (os : List ℕ) → length os ≡ nodes x →
    length (letters_offsets a ls os) ≡ nodes (letters_tree ls x)
letters_count [] a x os h = h
letters_count (l ∷ ls) a x os h =
    letter_count l a (letters_tree ls x) (letters_offsets (a + 1) ls os) (letters_count ls (a + 1) x os h)

mutual
  count : {ts : List Token} {x : Tree} {os : List ℕ} → Spells ts x os → length os ≡ nodes x
  count (text_andor c d e hx hy hz) = simp length-append (omega (arith, count hx, count hy, count hz))
  count (text_two kind c d hx hy) = simp length-append (omega (arith, count hx, count hy))
  count (text_and_n c d hx hy) = simp length-append (omega (arith, count hx, count hy))
  count (text_thresh d h hx) = simp length-append (omega (arith, count_children hx))
  count (text_letters {a = a} l ls {x = x} {os = os} hx) = letters_count (l ∷ ls) a x os (count hx)
  count h = refl

  count_children : {ts : List Token} {xs : Trees} {os : List ℕ} → SpellsChildren ts xs os → length os ≡ nodes_of xs
  count_children (last_child hx) = omega (arith, count hx)
  count_children (next_child hx hy) = simp length-append (omega (arith, count hx, count_children hy))

pub count_text : {ts : List Token} {x : Tree} {os : List ℕ} → SpellsText ts x os → length os ≡ nodes x
count_text (text_whole e h) = count h
