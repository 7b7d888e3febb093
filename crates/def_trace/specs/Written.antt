-- How a trace is written: a line for each instruction that was reached. What the run came to stands behind them, as in
-- the first line of the report of a run.
use Rattle.std.specs.Prelude.{ℕ, List, [], ◌∷◌, ◌++◌, codes, decimal, drop, flat_map, true, false}
use Rattle.hex.specs.Hex.{encode_lower}
use Rattle.def_script.specs.declared.Op.{Op}
use Rattle.def_script.specs.declared.Op.TheVariants as op
use Rattle.def_script.specs.Bytes.{Bytes}
use Rattle.def_script.specs.Item.{Item}
use Rattle.def_script.specs.Item as item
use Rattle.def_trace.specs.Changes.{Change, popped, pushed, alt_pushed, alt_popped, opened, turned, closed, checked}
use Rattle.def_trace.specs.Trace.{Line, Event, stepped, skipped, stopped}

-- bytes in lower-case digits; no byte is `-`
abbrev pub digits : Bytes → Bytes
digits [] = codes "-"
digits (byte ∷ bytes) = encode_lower (byte ∷ bytes)

-- the name of an opcode (Bitcoin Core: `GetOpName` in script/script.cpp)
abbrev pub op_name : Op → Bytes
op_name op.If = codes "OP_IF"
op_name op.NotIf = codes "OP_NOTIF"
op_name op.Else = codes "OP_ELSE"
op_name op.EndIf = codes "OP_ENDIF"
op_name op.Verify = codes "OP_VERIFY"
op_name op.ToAltStack = codes "OP_TOALTSTACK"
op_name op.FromAltStack = codes "OP_FROMALTSTACK"
op_name op.IfDup = codes "OP_IFDUP"
op_name op.Dup = codes "OP_DUP"
op_name op.Swap = codes "OP_SWAP"
op_name op.Size = codes "OP_SIZE"
op_name op.Equal = codes "OP_EQUAL"
op_name op.EqualVerify = codes "OP_EQUALVERIFY"
op_name op.ZeroNotEqual = codes "OP_0NOTEQUAL"
op_name op.Add = codes "OP_ADD"
op_name op.BoolAnd = codes "OP_BOOLAND"
op_name op.BoolOr = codes "OP_BOOLOR"
op_name op.Ripemd160 = codes "OP_RIPEMD160"
op_name op.Sha256 = codes "OP_SHA256"
op_name op.Hash160 = codes "OP_HASH160"
op_name op.Hash256 = codes "OP_HASH256"
op_name op.CheckSig = codes "OP_CHECKSIG"
op_name op.CheckSigVerify = codes "OP_CHECKSIGVERIFY"
op_name op.CheckMultiSig = codes "OP_CHECKMULTISIG"
op_name op.CheckMultiSigVerify = codes "OP_CHECKMULTISIGVERIFY"
op_name op.CheckLockTimeVerify = codes "OP_CHECKLOCKTIMEVERIFY"
op_name op.CheckSequenceVerify = codes "OP_CHECKSEQUENCEVERIFY"

-- an instruction: a push by the bytes that it pushes, an opcode by its name, and what can't be read by its first byte
abbrev pub instruction_text : Item → (first : ℕ) → Bytes
instruction_text (item.push bytes minimal) first = codes "push " ++ digits bytes
instruction_text (item.code op) first = op_name op
instruction_text (item.fault fault) first = codes "byte " ++ encode_lower (first ∷ [])

-- a change, behind a space
abbrev pub change_text : Change → Bytes
change_text (popped count) = codes " pop " ++ decimal count
change_text (pushed element) = codes " push " ++ digits element
change_text (alt_pushed element) = codes " altpush " ++ digits element
change_text alt_popped = codes " altpop"
change_text (opened true) = codes " open yes"
change_text (opened false) = codes " open no"
change_text turned = codes " turn"
change_text closed = codes " close"
change_text (checked pair) = codes " check " ++ digits pair.0 ++ codes " " ++ digits pair.1

abbrev pub kind_word : Event → Bytes
kind_word (stepped changes) = codes "step "
kind_word skipped = codes "skip "
kind_word stopped = codes "stop "

abbrev pub changes_text : Event → Bytes
changes_text (stepped changes) = flat_map change_text changes
changes_text skipped = []
changes_text stopped = []

-- a line without its end: the kind, the offset, the instruction and its changes
unfoldable pub line_text : Line → Bytes
line_text l =
    kind_word l.event ++ decimal l.placed.offset ++ codes " " ++ instruction_text l.placed.item l.placed.first
    ++ changes_text l.event

-- the place of the node that wrote the instruction, where it is known
abbrev pub node_text : (place : ℕ) → Bytes
node_text place = codes " node " ++ decimal place

-- the end of a line: the place of the node, where it is known, and a line feed
abbrev pub line_end : (places : List ℕ) → Bytes
line_end [] = 10 ∷ []
line_end (place ∷ places) = node_text place ++ 10 ∷ []

-- the lines, each with the place of the node that wrote its instruction, as far as places are given
unfoldable pub written : (places : List ℕ) → List Line → Bytes
written places [] = []
written places (l ∷ ls) = line_text l ++ line_end places ++ written (drop 1 places) ls
