-- What the definitions imply: what was spelled is read back.
use Rattle.std.specs.Prelude.{◌≡◌, ℕ, ◌^◌, ◌<◌, ◌≤◌, ⊤, ℤ, nat_abs, true, List, ◌++◌, length, drop, map, All, Some, Ok}
use Rattle.def_script.specs.declared.Op.{Op}
use Rattle.def_script.specs.Bytes.{Bytes, IsBytes}
use Rattle.def_script.specs.Instruction.{Instruction, push, code}
use Rattle.def_script.specs.Spell.{opcode_byte, spell}
use Rattle.def_script.specs.Item.{Item}
use Rattle.def_script.specs.Item as item
use Rattle.def_script.specs.Items.{op_of_byte, items}
use Rattle.def_script.specs.Numbers.{number_bytes}
use Rattle.def_script.specs.Decode.{num_decode, truth, is_nonzero}
use Rattle.def_script.specs.Sizes.{size_bytes, read_size}

-- an opcode's byte stands for it
abbrev pub ByteStandsForOp : Type 0
ByteStandsForOp = (op : Op) → op_of_byte (opcode_byte op) ≡ Some op

-- an instruction as an item: a push is minimal
abbrev pub item_of : Instruction → Item
item_of (push bytes) = item.push bytes true
item_of (code op) = item.code op

-- the instruction can be spelled: PUSHDATA4 has four bytes for a length
abbrev pub CanSpell : Instruction → Type 0
CanSpell (push bytes) = length bytes < 2 ^ 32
CanSpell (code op) = ⊤

-- the items of a spelled Script are its instructions, with every push minimal and no fault,
-- whatever follows
abbrev pub SpellingIsReadBack : Type 0
SpellingIsReadBack = (script : List Instruction) → (rest : Bytes) → All CanSpell script
    → items (spell script ++ rest) ≡ map item_of script ++ items rest

-- a Script number as a five-byte operand holds it is read back
abbrev pub NumberIsReadBack : Type 0
NumberIsReadBack = (z : ℤ) → nat_abs z < 2 ^ 39 → num_decode 5 (number_bytes z) ≡ Ok z

-- and what is read as a Script number is its one spelling
abbrev pub NumberHasOneSpelling : Type 0
NumberHasOneSpelling = (most : ℕ) → (bytes : Bytes) → (z : ℤ) → most ≤ 5 → IsBytes bytes → num_decode most bytes ≡ Ok z → bytes ≡ number_bytes z

-- a string that is a Script number is true where the number isn't zero
abbrev pub NonzeroIsTrue : Type 0
NonzeroIsTrue = (most : ℕ) → (bytes : Bytes) → (z : ℤ) → num_decode most bytes ≡ Ok z → truth bytes ≡ is_nonzero z

-- a CompactSize is read back, whatever follows
abbrev pub SizeIsReadBack : Type 0
SizeIsReadBack = (size : ℕ) → (rest : Bytes) → size < 2 ^ 64 → read_size (size_bytes size ++ rest) ≡ Ok (size, length (size_bytes size))

-- and what is read as a CompactSize is its one spelling
abbrev pub SizeHasOneSpelling : Type 0
SizeHasOneSpelling = (bytes : Bytes) → (read : ℕ × ℕ) → IsBytes bytes → read_size bytes ≡ Ok read → bytes ≡ size_bytes read.0 ++ drop read.1 bytes
