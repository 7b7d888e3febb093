-- The instructions of a script, each with its place.
use Rattle.std.specs.Prelude.{ℕ, zero, suc, ◌+◌, List, [], ◌∷◌, Ok, Err}
use Rattle.def_script.specs.Bytes.{Bytes}
use Rattle.def_script.specs.Item.{Item}
use Rattle.def_script.specs.Item as item
use Rattle.def_script.specs.Items.{ItemReading, first_item}

pub record Placed : Type 0 where
  -- how many bytes of the script stand before it
  pub offset : ℕ
  -- its first byte
  pub first : ℕ
  pub item : Item

-- an instruction and those behind it; one that can't be read ends them
abbrev pub placed_by : (offset first : ℕ) → ItemReading → (ℕ → List Placed) → List Placed
placed_by offset first (Ok read) next = record { offset = offset; first = first; item = read.0 } ∷ next read.1
placed_by offset first (Err fault) next = record { offset = offset; first = first; item = item.fault fault } ∷ []

-- the instructions of what is left of some bytes after so many of them; the first of the bytes stands at the offset
unfoldable pub placed_after : (offset skipped : ℕ) → Bytes → List Placed
placed_after offset skipped [] = []
placed_after offset zero (byte ∷ bytes) = placed_by offset byte (first_item byte bytes) (λ taken. placed_after (offset + 1) taken bytes)
placed_after offset (suc skipped) (byte ∷ bytes) = placed_after (offset + 1) skipped bytes

-- the instructions of a script: its items, each at the offset of its first byte
abbrev pub placed : (script : Bytes) → List Placed
placed script = placed_after 0 0 script
