-- What is known of a tree before it is tried, and what a try shows.
use Rattle.std.specs.Prelude.{◌≡◌, List, All, map, reverse, Option, Some, None}
use Rattle.def_script.specs.Bytes.{Bytes}
use Rattle.def_script.specs.Instruction.{Instruction}
use Rattle.def_script.specs.Items.{items}
use Rattle.def_script.specs.Laws.{item_of}
use Rattle.def_tree.specs.Tree.{Key, Tree}
use Rattle.def_tree.specs.Range.{IsKey}
use Rattle.def_decode.specs.Decoded.{first_with, IsReading}
use Rattle.ms_decode_laws.specs.Scaffolding.Reader.{read}

-- the reader finds this tree
pub record IsCandidate (keys : List Key) (script : Bytes) (t : Tree) : Type 0 where
  pub are_keys : All IsKey keys
  pub instructions : List Instruction
  pub spelled : items script ≡ map item_of instructions
  pub found : read (first_with keys) (reverse instructions) ≡ Some t

-- it finds one, or else the Script can't be read
abbrev pub MayBe : List Key → Bytes → Option Tree → Type 0
MayBe keys script None = (t : Tree) → IsReading keys script t → ⊥
MayBe keys script (Some t) = IsCandidate keys script t
