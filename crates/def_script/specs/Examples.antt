-- Examples: the table of opcodes and pushes (Bitcoin Core, script/script.h), Script numbers and
-- truth values (Bitcoin Core, test/scriptnum_tests.cpp and script_tests), CompactSize numbers
-- (Bitcoin Core, serialize.h).
use Rattle.std.specs.Prelude.{◌≡◌, ◌^◌, ◌-◌, pos, negsuc, true, false, [], ◌∷◌, ◌++◌, map, replicate, Err}
use Rattle.def_script.specs.declared.Op.TheVariants as op
use Rattle.def_script.specs.declared.InstrFault.TheVariants as instr_fault
use Rattle.def_script.specs.declared.NumFault.TheVariants as num_fault
use Rattle.def_script.specs.declared.SizeFault.TheVariants as size_fault
use Rattle.def_script.specs.Instruction.{push, code}
use Rattle.def_script.specs.Numbers.{number_bytes}
use Rattle.def_script.specs.Spell.{spell}
use Rattle.def_script.specs.Item as item
use Rattle.def_script.specs.Items.{items}
use Rattle.def_script.specs.Decode.{num_decode, truth}
use Rattle.def_script.specs.Sizes.{size_bytes, read_size}
use Rattle.def_script.specs.Witness.{witness_text}

-- the empty string, -1, 1 and 16 have opcodes of their own; 17 and 0x80 are pushed by a length of 1
abbrev pub SmallPushes : Type 0
SmallPushes = spell (push [] ∷ push (0x81 ∷ []) ∷ push (1 ∷ []) ∷ push (16 ∷ []) ∷ push (17 ∷ []) ∷ push (0x80 ∷ []) ∷ code op.CheckSig ∷ [])
    ≡ 0x00 ∷ 0x4f ∷ 0x51 ∷ 0x60 ∷ 0x01 ∷ 17 ∷ 0x01 ∷ 0x80 ∷ 0xac ∷ []

-- 75, 76, 256 and 65,536 bytes are pushed by a length alone, PUSHDATA1, PUSHDATA2 and PUSHDATA4
abbrev pub SizedPushes : Type 0
SizedPushes = spell (push (replicate 75 7) ∷ push (replicate 76 7) ∷ push (replicate 256 7) ∷ push (replicate 65536 7) ∷ [])
    ≡ (75 ∷ replicate 75 7) ++ (0x4c ∷ 76 ∷ replicate 76 7) ++ (0x4d ∷ 0x00 ∷ 0x01 ∷ replicate 256 7)
    ++ (0x4e ∷ 0x00 ∷ 0x00 ∷ 0x01 ∷ 0x00 ∷ replicate 65536 7)

-- a number that has an opcode of its own, a length that has a shorter form, and an empty string by
-- PUSHDATA1
abbrev pub LongPushes : Type 0
LongPushes = items (0x01 ∷ 0x01 ∷ 0x01 ∷ 0x81 ∷ 0x4c ∷ 0x02 ∷ 7 ∷ 7 ∷ 0x4d ∷ 0x01 ∷ 0x00 ∷ 7 ∷ 0x4c ∷ 0x00 ∷ [])
    ≡ item.push (0x01 ∷ []) false ∷ item.push (0x81 ∷ []) false ∷ item.push (7 ∷ 7 ∷ []) false ∷ item.push (7 ∷ []) false ∷ item.push [] false ∷ []

-- the bytes end in a push, in its length, or at a PUSHDATA4
abbrev pub TruncatedPushes : Type 0
TruncatedPushes =
    map items ((0x51 ∷ 0x02 ∷ 0x07 ∷ []) ∷ (0x4d ∷ 0x01 ∷ []) ∷ (0x4e ∷ []) ∷ [])
    ≡ (item.push (1 ∷ []) true ∷ item.fault instr_fault.Truncated ∷ []) ∷ (item.fault instr_fault.Truncated ∷ []) ∷ (item.fault instr_fault.Truncated ∷ []) ∷ []

-- OP_NOP isn't used, and reading ends there
abbrev pub NopIsUnsupported : Type 0
NopIsUnsupported = items (0x76 ∷ 0x61 ∷ 0x51 ∷ []) ≡ item.code op.Dup ∷ item.fault instr_fault.Unsupported ∷ []

-- 0, 1, -1, 127, -127, 128, -128, 255, 256, 32768, 2^31 - 1, 1 - 2^31 and 2^39 - 1
abbrev pub NumberSpellings : Type 0
NumberSpellings =
    map number_bytes (pos 0 ∷ pos 1 ∷ negsuc 0 ∷ pos 127 ∷ negsuc 126 ∷ pos 128 ∷ negsuc 127 ∷ pos 255 ∷ pos 256 ∷ pos 32768
    ∷ pos (2 ^ 31 - 1) ∷ negsuc (2 ^ 31 - 2) ∷ pos (2 ^ 39 - 1) ∷ [])
    ≡ [] ∷ (0x01 ∷ []) ∷ (0x81 ∷ []) ∷ (0x7f ∷ []) ∷ (0xff ∷ []) ∷ (0x80 ∷ 0x00 ∷ []) ∷ (0x80 ∷ 0x80 ∷ []) ∷ (0xff ∷ 0x00 ∷ [])
    ∷ (0x00 ∷ 0x01 ∷ []) ∷ (0x00 ∷ 0x80 ∷ 0x00 ∷ []) ∷ (0xff ∷ 0xff ∷ 0xff ∷ 0x7f ∷ []) ∷ (0xff ∷ 0xff ∷ 0xff ∷ 0xff ∷ [])
    ∷ (0xff ∷ 0xff ∷ 0xff ∷ 0xff ∷ 0x7f ∷ []) ∷ []

-- a zero byte, a negative zero, 1 in two bytes, and five bytes where four may stand, which is found
-- first
abbrev pub NumberFaults : Type 0
NumberFaults =
    map (num_decode 4) ((0x00 ∷ []) ∷ (0x80 ∷ []) ∷ (0x01 ∷ 0x00 ∷ []) ∷ (0x01 ∷ 0x80 ∷ []) ∷ (0x01 ∷ 0x00 ∷ 0x00 ∷ 0x00 ∷ 0x00 ∷ []) ∷ [])
    ≡ Err num_fault.NotMinimal ∷ Err num_fault.NotMinimal ∷ Err num_fault.NotMinimal ∷ Err num_fault.NotMinimal ∷ Err num_fault.TooLong ∷ []

-- false: the empty string, zeros, and zeros before a last 0x80
abbrev pub TruthValues : Type 0
TruthValues =
    map truth ([] ∷ (0x00 ∷ []) ∷ (0x80 ∷ []) ∷ (0x00 ∷ 0x00 ∷ 0x80 ∷ []) ∷ (0x01 ∷ []) ∷ (0x81 ∷ []) ∷ (0x80 ∷ 0x00 ∷ []) ∷ (0x00 ∷ 0x01 ∷ 0x00 ∷ []) ∷ [])
    ≡ false ∷ false ∷ false ∷ false ∷ true ∷ true ∷ true ∷ true ∷ []

-- the ends of each width
abbrev pub SizeSpellings : Type 0
SizeSpellings =
    map size_bytes (0 ∷ 252 ∷ 253 ∷ 65535 ∷ 65536 ∷ (2 ^ 32 - 1) ∷ 2 ^ 32 ∷ [])
    ≡ (0x00 ∷ []) ∷ (0xfc ∷ []) ∷ (0xfd ∷ 0xfd ∷ 0x00 ∷ []) ∷ (0xfd ∷ 0xff ∷ 0xff ∷ []) ∷ (0xfe ∷ 0x00 ∷ 0x00 ∷ 0x01 ∷ 0x00 ∷ [])
    ∷ (0xfe ∷ 0xff ∷ 0xff ∷ 0xff ∷ 0xff ∷ []) ∷ (0xff ∷ 0x00 ∷ 0x00 ∷ 0x00 ∷ 0x00 ∷ 0x01 ∷ 0x00 ∷ 0x00 ∷ 0x00 ∷ []) ∷ []

-- no byte, one of two bytes, and 252 and 65,535 by a wider form than they need
abbrev pub SizeFaults : Type 0
SizeFaults =
    map read_size ([] ∷ (0xfd ∷ 0xff ∷ []) ∷ (0xfd ∷ 0xfc ∷ 0x00 ∷ []) ∷ (0xfe ∷ 0xff ∷ 0xff ∷ 0x00 ∷ 0x00 ∷ []) ∷ [])
    ≡ Err size_fault.Truncated ∷ Err size_fault.Truncated ∷ Err size_fault.NotShortest ∷ Err size_fault.NotShortest ∷ []

-- two elements and the Script 1
abbrev pub SmallWitness : Type 0
SmallWitness = witness_text ([] ∷ (0xaa ∷ 0xbb ∷ []) ∷ []) (0x51 ∷ []) ≡ 0x03 ∷ 0x00 ∷ 0x02 ∷ 0xaa ∷ 0xbb ∷ 0x01 ∷ 0x51 ∷ []
