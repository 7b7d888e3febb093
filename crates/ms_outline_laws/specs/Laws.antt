-- Of which tree an outline is.
use Rattle.std.specs.Prelude.{◌≡◌, ℕ, map}
use Rattle.def_script.specs.Bytes.{Bytes}
use Rattle.def_tree.specs.Range.{IsWritable}
use Rattle.def_tree.specs.Tree.{Tree}
use Rattle.def_outline.specs.Outline.{Node, outline}
use Rattle.def_answer.specs.Outline.{head_text}

-- what the line of a node says beside its place and its type: its depth, and its name with its arguments
abbrev pub shown : Node → ℕ × Bytes
shown n = (n.depth, head_text n.tree)

-- two trees that can be written and whose lines say the same are the same
abbrev pub LinesAreTheTree : Type 0
LinesAreTheTree =
    (tree other : Tree) → IsWritable tree → IsWritable other → map shown (outline 0 0 tree) ≡ map shown (outline 0 0 other) → tree ≡ other
