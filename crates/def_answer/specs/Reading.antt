-- The reading of a text: its tree, or its refusal.
use Rattle.std.specs.Prelude.{ℕ, List}
use Rattle.def_script.specs.Bytes.{Bytes}
use Rattle.def_tree.specs.Tree.{Tree}
use Rattle.def_text.specs.declared.TextFault.{TextFault}
use Rattle.def_text.specs.Refusal.{TextReads, TextRefusal}

-- a tree, with the offsets of its nodes, or why there is none
pub data Reading : Type 0 where
  read : (tree : Tree) → (offsets : List ℕ) → Reading
  refused : (fault : TextFault) → Reading

-- a text has this reading
abbrev pub HasReading : (text : Bytes) → Reading → Type 0
HasReading text (read tree offsets) = TextReads text tree offsets
HasReading text (refused fault) = TextRefusal text fault
