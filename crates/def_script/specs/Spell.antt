-- How instructions are spelled as bytes (Bitcoin Core: `opcodetype`, `CScript::operator<<` and
-- `CheckMinimalPush`).
use Rattle.std.specs.Prelude.{ℕ, ◌+◌, ◌≤◌, ◌==◌, ◌&&◌, ⊤, nat_le, List, [], ◌∷◌, ◌++◌, length, if◌then◌else◌}
use Rattle.std.specs.List.{flat_map}
use Rattle.std.specs.Int.{w16, w32, to_le_bytes}
use Rattle.def_script.specs.declared.Op.{Op}
use Rattle.def_script.specs.declared.Op.TheVariants as op
use Rattle.def_script.specs.Bytes.{Bytes}
use Rattle.def_script.specs.Instruction.{Instruction, push, code}
use Rattle.def_script.specs.Limits.{MAX_SCRIPT_ELEMENT_SIZE}

-- the byte that stands for an opcode
abbrev pub opcode_byte : Op → ℕ
opcode_byte op.If = 0x63
opcode_byte op.NotIf = 0x64
opcode_byte op.Else = 0x67
opcode_byte op.EndIf = 0x68
opcode_byte op.Verify = 0x69
opcode_byte op.ToAltStack = 0x6b
opcode_byte op.FromAltStack = 0x6c
opcode_byte op.IfDup = 0x73
opcode_byte op.Dup = 0x76
opcode_byte op.Swap = 0x7c
opcode_byte op.Size = 0x82
opcode_byte op.Equal = 0x87
opcode_byte op.EqualVerify = 0x88
opcode_byte op.ZeroNotEqual = 0x92
opcode_byte op.Add = 0x93
opcode_byte op.BoolAnd = 0x9a
opcode_byte op.BoolOr = 0x9b
opcode_byte op.Ripemd160 = 0xa6
opcode_byte op.Sha256 = 0xa8
opcode_byte op.Hash160 = 0xa9
opcode_byte op.Hash256 = 0xaa
opcode_byte op.CheckSig = 0xac
opcode_byte op.CheckSigVerify = 0xad
opcode_byte op.CheckMultiSig = 0xae
opcode_byte op.CheckMultiSigVerify = 0xaf
opcode_byte op.CheckLockTimeVerify = 0xb1
opcode_byte op.CheckSequenceVerify = 0xb2

-- the shortest push by a length: the length alone up to 75, or after PUSHDATA1, PUSHDATA2 or
-- PUSHDATA4 in 1, 2 or 4 bytes, low byte first
abbrev pub sized_push : Bytes → Bytes
sized_push bytes =
    if nat_le (length bytes) 75 then length bytes ∷ bytes
    else if nat_le (length bytes) 255 then 0x4c ∷ length bytes ∷ bytes
    else if nat_le (length bytes) 65535 then 0x4d ∷ to_le_bytes w16 (length bytes) ++ bytes
    else 0x4e ∷ to_le_bytes w32 (length bytes) ++ bytes

-- the shortest push of one byte: 1 to 16 and 81, which is the number -1, have opcodes of their own
abbrev pub byte_push : ℕ → Bytes
byte_push b =
    if nat_le 1 b && nat_le b 16 then (0x50 + b) ∷ []
    else if b == 0x81 then 0x4f ∷ []
    else sized_push (b ∷ [])

-- the shortest push of a string; the empty one has an opcode of its own too
abbrev pub shortest_push : Bytes → Bytes
shortest_push [] = 0x00 ∷ []
shortest_push (b ∷ []) = byte_push b
shortest_push (b ∷ c ∷ bytes) = sized_push (b ∷ c ∷ bytes)

-- an instruction that pushes no element of more bytes than one can have
abbrev pub IsShort : Instruction → Type 0
IsShort (push bytes) = length bytes ≤ MAX_SCRIPT_ELEMENT_SIZE
IsShort (code op) = ⊤

-- the shortest spelling of an instruction
abbrev pub spell_one : Instruction → Bytes
spell_one (push bytes) = shortest_push bytes
spell_one (code op) = opcode_byte op ∷ []

-- the bytes of a Script: each instruction in its shortest spelling, one after the other
abbrev pub spell : List Instruction → Bytes
spell = flat_map spell_one
