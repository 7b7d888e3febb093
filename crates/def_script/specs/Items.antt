-- How the bytes of a Script are read (Bitcoin Core: `GetScriptOp` and `CheckMinimalPush`).
use Rattle.std.specs.Prelude.{ℕ, zero, suc, ◌+◌, ◌-◌, ◌==◌, ◌&&◌, nat_lt, nat_le, pos, negsuc, Bool, true, List, [], ◌∷◌, length, take, drop, slice_index, find, if◌then◌else◌, Option, Some, None, Result, Ok, Err}
use Rattle.std.specs.Int.{w16, w32, from_le_bytes}
use Rattle.def_script.specs.declared.Op.{Op}
use Rattle.def_script.specs.declared.Op.TheVariants as op
use Rattle.def_script.specs.declared.InstrFault.{InstrFault}
use Rattle.def_script.specs.declared.InstrFault.TheVariants.{Truncated, Unsupported}
use Rattle.def_script.specs.Bytes.{Bytes}
use Rattle.def_script.specs.Numbers.{number_bytes}
use Rattle.def_script.specs.Spell.{opcode_byte, shortest_push}
use Rattle.def_script.specs.Item.{Item}
use Rattle.def_script.specs.Item as item

-- all opcodes
abbrev pub every_op : List Op
every_op =
    op.If ∷ op.NotIf ∷ op.Else ∷ op.EndIf ∷ op.Verify ∷ op.ToAltStack ∷ op.FromAltStack ∷ op.IfDup ∷ op.Dup
    ∷ op.Swap ∷ op.Size ∷ op.Equal ∷ op.EqualVerify ∷ op.ZeroNotEqual ∷ op.Add ∷ op.BoolAnd ∷ op.BoolOr
    ∷ op.Ripemd160 ∷ op.Sha256 ∷ op.Hash160 ∷ op.Hash256 ∷ op.CheckSig ∷ op.CheckSigVerify ∷ op.CheckMultiSig
    ∷ op.CheckMultiSigVerify ∷ op.CheckLockTimeVerify ∷ op.CheckSequenceVerify ∷ []

-- the opcode for which a byte stands
abbrev pub op_of_byte : ℕ → Option Op
op_of_byte byte = find (λ op. opcode_byte op == byte) every_op

-- an item that bytes begin with, and how many bytes it takes after its first one
abbrev pub ItemReading : Type 0
ItemReading = Result (Item × ℕ) InstrFault

-- a push is minimal where it begins with the byte with which its shortest spelling begins
abbrev pub is_minimal_push : (first : ℕ) → Bytes → Bool
is_minimal_push first bytes = slice_index (shortest_push bytes) 0 == first

-- a push whose first byte is followed by a length field of so many bytes, and then by its bytes
abbrev pub read_push : (first field count : ℕ) → Bytes → ItemReading
read_push first field count rest =
    if nat_lt (length rest) (field + count) then Err Truncated
    else Ok (item.push (take count (drop field rest)) (is_minimal_push first (take count (drop field rest))), field + count)

-- an opcode that isn't a push
abbrev pub read_op : Option Op → ItemReading
read_op (Some op) = Ok (item.code op, 0)
read_op None = Err Unsupported

-- an opcode that pushes the number -1 or 1 to 16, or another opcode
abbrev pub read_number_or_op : ℕ → ItemReading
read_number_or_op first =
    if first == 0x4f then Ok (item.push (number_bytes (negsuc 0)) true, 0)
    else if nat_le 0x51 first && nat_le first 0x60 then Ok (item.push (number_bytes (pos (first - 0x50))) true, 0)
    else read_op (op_of_byte first)

-- how many bytes the length field of a push has, and how many bytes it pushes, by its first byte:
-- up to 75 that many, and by PUSHDATA1, PUSHDATA2 and PUSHDATA4 the number in the next 1, 2 or 4
-- bytes, low byte first
abbrev pub push_size : ℕ → Bytes → Option (ℕ × ℕ)
push_size first rest =
    if nat_le first 75 then Some (0, first)
    else if first == 0x4c then Some (1, slice_index rest 0)
    else if first == 0x4d then Some (2, from_le_bytes w16 rest)
    else if first == 0x4e then Some (4, from_le_bytes w32 rest)
    else None

abbrev pub read_sized : (first : ℕ) → Option (ℕ × ℕ) → Bytes → ItemReading
read_sized first (Some size) rest = read_push first size.0 size.1 rest
read_sized first None rest = read_number_or_op first

-- the item that begins with a byte
unfoldable pub first_item : ℕ → Bytes → ItemReading
first_item first rest = read_sized first (push_size first rest) rest

-- an item and those after it; a fault ends them
abbrev pub followed : ItemReading → (ℕ → List Item) → List Item
followed (Ok r) next = r.0 ∷ next r.1
followed (Err fault) next = item.fault fault ∷ []

-- the items of what is left of some bytes after so many of them
unfoldable pub items_after : ℕ → Bytes → List Item
items_after skipped [] = []
items_after zero (byte ∷ bytes) = followed (first_item byte bytes) (λ taken. items_after taken bytes)
items_after (suc skipped) (byte ∷ bytes) = items_after skipped bytes

-- the items of a Script
abbrev pub items : Bytes → List Item
items script = items_after 0 script
