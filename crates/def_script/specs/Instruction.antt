-- The instructions of a Script.
use Rattle.std.specs.Prelude.{ℕ, ◌+◌, List, [], ◌∷◌}
use Rattle.def_script.specs.declared.Op.{Op}
use Rattle.def_script.specs.Bytes.{Bytes}

-- a push of bytes, or an opcode that isn't a push
pub data Instruction : Type 0 where
  push : (bytes : Bytes) → Instruction
  code : (op : Op) → Instruction

-- how many instructions aren't pushes: the opcodes above 0x60, which count
abbrev pub opcode_count : List Instruction → ℕ
opcode_count [] = 0
opcode_count (push bytes ∷ rest) = opcode_count rest
opcode_count (code op ∷ rest) = 1 + opcode_count rest
