-- Examples: what bytes sign, and what final fields have consensus run.
use Rattle.std.specs.Prelude.{◌≡◌, ◌++◌, true, false, List, [], ◌∷◌, replicate, Result, Ok, Err}
use Rattle.def_hash.specs.Hex.{from_hex}
use Rattle.def_script.specs.Bytes.{Bytes}
use Rattle.def_machine.specs.Program.{program_of}
use Rattle.def_spend.specs.declared.SignedOutputs.TheVariants as outputs
use Rattle.def_spend.specs.HashTypes.{hash_type}
use Rattle.def_spend.specs.Kinds.{p2sh_of}
use Rattle.def_verify.specs.declared.Flaw.{Flaw}
use Rattle.def_verify.specs.declared.Flaw.TheVariants as flaw
use Rattle.def_verify.specs.ConsensusHash.{type_by}
use Rattle.def_verify.specs.Final.{Execution, execution_of}

-- ---- bytes that are none of the six hash types

abbrev pub OtherBytes : Type 0
OtherBytes =
    (type_by 0x00 ≡ hash_type outputs.All false)
    × (type_by 0x22 ≡ hash_type outputs.None false)
    × (type_by 0x43 ≡ hash_type outputs.Single false)
    × (type_by 0x7f ≡ hash_type outputs.All false)
    × (type_by 0x80 ≡ hash_type outputs.All true)
    × (type_by 0xe2 ≡ hash_type outputs.None true)
    × (type_by 0xff ≡ hash_type outputs.All true)

-- ---- final fields, of the Script that is the byte 51

abbrev pub script : Bytes
script = 0x51 ∷ []

abbrev pub witness_program : Bytes
witness_program = program_of script

-- an item, and the Script
abbrev pub items : List Bytes
items = (0x07 ∷ []) ∷ script ∷ []

-- what is run for a Script on this stack
abbrev pub runs_on_first : Result Execution Flaw
runs_on_first = Ok (script, (0x07 ∷ []) ∷ [])

-- P2WSH, by itself
abbrev pub Native : Type 0
Native =
    (execution_of witness_program [] items ≡ runs_on_first)
    × (execution_of witness_program (0x00 ∷ []) items ≡ Err flaw.ScriptSig)
    × (execution_of witness_program [] [] ≡ Err flaw.WrongScript)
    × (execution_of witness_program [] (script ∷ (0x07 ∷ []) ∷ []) ≡ Err flaw.WrongScript)

-- the scriptSig is the one push of the program, by its length alone: not by PUSHDATA1, and with nothing behind it
abbrev pub Nested : Type 0
Nested =
    (execution_of (p2sh_of witness_program) (0x22 ∷ witness_program) items ≡ runs_on_first)
    × (execution_of (p2sh_of witness_program) (0x4c ∷ 0x22 ∷ witness_program) items ≡ Err flaw.ScriptSig)
    × (execution_of (p2sh_of witness_program) (0x22 ∷ witness_program ++ 0x51 ∷ []) items ≡ Err flaw.ScriptSig)
    × (execution_of (p2sh_of witness_program) [] items ≡ Err flaw.ScriptSig)
    × (execution_of (p2sh_of witness_program) [] [] ≡ Err flaw.OtherOutput)

-- P2WPKH: the native input of BIP 143's examples, with two items and with three
abbrev pub key_program : Bytes
key_program = from_hex "00141d0f172a0ecb48aee1be1f2687d2963ae33f71a1"

abbrev pub KeyHash : Type 0
KeyHash =
    (execution_of key_program [] items ≡ Ok (from_hex "76a9141d0f172a0ecb48aee1be1f2687d2963ae33f71a188ac", items))
    × (execution_of key_program [] ([] ∷ items) ≡ Err flaw.ItemCount)
    × (execution_of key_program (0x00 ∷ []) [] ≡ Err flaw.ScriptSig)

-- other outputs aren't looked at: version 1, and a program of 31 bytes
abbrev pub Other : Type 0
Other =
    (execution_of (0x51 ∷ 0x20 ∷ replicate 32 7) [] items ≡ Err flaw.OtherOutput)
    × (execution_of (0x00 ∷ 0x1f ∷ replicate 31 7) (0x00 ∷ []) items ≡ Err flaw.OtherOutput)
