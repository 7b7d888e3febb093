-- The instructions that bytes are the spelling of.
use Rattle.std.specs.Prelude.{◌≡◌, ℕ, ◌<◌, ◌≤◌, List, ◌∷◌, length, drop, map, Option, Some, None}
use Rattle.def_script.specs.Bytes.{Bytes}
use Rattle.def_script.specs.Instruction.{Instruction}
use Rattle.def_script.specs.Items.{items}
use Rattle.def_script.specs.Laws.{item_of}
use Rattle.ms_script.specs.declared.reading.InstrRef.{InstrRef}
use Rattle.ms_script.specs.Reads.{item_of as read_item}
use Rattle.ms_reading.specs.declared.codes.Code.{Code}
use Rattle.ms_reading.specs.Scaffolding.States.{instruction_of}

-- an instruction that was read, or none where its push isn't the shortest
abbrev pub IsCode : InstrRef → Option Code → Type 0
IsCode i None = (j : Instruction) → read_item i ≡ item_of j → ⊥
IsCode i (Some c) = read_item i ≡ item_of (instruction_of c)

-- the instruction at a place, and where the next one begins
abbrev pub IsCodeAt : Bytes → (from : ℕ) → Option (Code × ℕ) → Type 0
IsCodeAt script from None = (is : List Instruction) → items (drop from script) ≡ map item_of is → ⊥
IsCodeAt script from (Some next) =
    (from < next.1) × (next.1 ≤ length script) × (items (drop from script) ≡ item_of (instruction_of next.0) ∷ items (drop next.1 script))

-- all instructions, or that there are none such
abbrev pub AreCodes : Bytes → List Code → Type 0
AreCodes script codes = items script ≡ map item_of (map instruction_of codes)

abbrev pub HasNoCodes : Bytes → Type 0
HasNoCodes script = (is : List Instruction) → items script ≡ map item_of is → ⊥
