-- What the machine answers behind an expression that letters wait for.
use Rattle.std.proofs.Common.{◌≡◌, ℕ, List, ◌∷◌, ◌++◌, arith}
use Rattle.def_tree.specs.Tree.{Tree}
use Rattle.def_text.specs.Token.{Token}
use Rattle.def_text.specs.Letter.{Letter, letter_tree}
use Rattle.def_text.specs.Scaffolding.Reader.{ended, Frame, letter_frame, outcome, offsets_behind}

-- a letter that waits is applied, whatever follows
pub outcome-letter : (l : Letter) (a : ℕ) (x : Tree) (fs : List Frame) (os : List ℕ) (ts : List Token) →
    outcome (ended x, letter_frame l a ∷ fs, os) ts ≡ outcome (ended (letter_tree l x), fs, os ++ offsets_behind l a) ts
outcome-letter l a x fs os ts = grind arith
