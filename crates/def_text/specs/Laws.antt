-- Laws of the definitions: each text has exactly one answer, a printed form spells its tree, and what a text spells
-- is in range.
use Rattle.std.specs.Prelude.{◌≡◌, ◌⊎◌, ℕ, List, IsUtf8, length}
use Rattle.def_script.specs.Bytes.{Bytes}
use Rattle.def_tree.specs.Tree.{Tree}
use Rattle.def_tree.specs.Size.{nodes}
use Rattle.def_tree.specs.Range.{IsWritable}
use Rattle.def_tree.specs.InRange.{IsInRange}
use Rattle.def_text.specs.Print.{printed}
use Rattle.def_text.specs.declared.TextFault.{TextFault}
use Rattle.def_text.specs.Token.{Token, tokens}
use Rattle.def_text.specs.Spells.{SpellsText}
use Rattle.def_text.specs.Refusal.{TextReads, TextRefusal}

-- a text spells at most one tree, with one list of offsets
abbrev pub OneTree : Type 0
OneTree =
    (ts : List Token) (x y : Tree) (os ps : List ℕ) → SpellsText ts x os → SpellsText ts y ps → (x ≡ y) × (os ≡ ps)

-- each node of the tree that a text spells has an offset
abbrev pub OneOffsetEach : Type 0
OneOffsetEach = (ts : List Token) (x : Tree) (os : List ℕ) → SpellsText ts x os → length os ≡ nodes x

-- a text has at most one refusal
abbrev pub OneRefusal : Type 0
OneRefusal = (text : Bytes) (d e : TextFault) → TextRefusal text d → TextRefusal text e → d ≡ e

-- and none where it is read
abbrev pub NoneBesideTree : Type 0
NoneBesideTree =
    (text : Bytes) (x : Tree) (os : List ℕ) (e : TextFault) → IsUtf8 text → TextReads text x os → ¬ TextRefusal text e

-- each text is read or has a refusal
abbrev pub SomeAnswer : Type 0
SomeAnswer =
    (text : Bytes) → IsUtf8 text →
    ((x : Tree) × (os : List ℕ) × TextReads text x os) ⊎ ((e : TextFault) × TextRefusal text e)

-- the printed form of a tree spells it, where its arguments can be written
abbrev pub PrintedIsSpelled : Type 0
PrintedIsSpelled = (x : Tree) → IsWritable x → (os : List ℕ) × SpellsText (tokens (printed x)) x os

-- the tree of a text of UTF-8 is in range. Of other bytes it may be too deep: behind a byte 80 no text of UTF-8 has
-- these tokens, so none of them is too deep, however many letters stand there
abbrev pub SpelledInRange : Type 0
SpelledInRange = (text : Bytes) (x : Tree) (os : List ℕ) → IsUtf8 text → TextReads text x os → IsInRange x
