-- The Script that an input has to satisfy, and the miniscript that it is read as.
use Rattle.std.specs.Prelude.{◌≡◌, ◌||◌, not, Bool, false, List, [], ◌∷◌, ◌++◌, drop, map, All, if◌then◌else◌, Option, Some, None, Result, Ok, Err}
use Rattle.std.specs.Str.{bytes_eq}
use Rattle.def_script.specs.Bytes.{Bytes}
use Rattle.def_machine.specs.Program.{program_of}
use Rattle.def_tree.specs.Tree.{Key, Tree}
use Rattle.def_decode.specs.Decoded.{IsReading, IsDecoded}
use Rattle.def_psbt.specs.Map.{Map, Psbt}
use Rattle.def_spend.specs.declared.State.{State}
use Rattle.def_spend.specs.declared.State.TheVariants as state
use Rattle.def_spend.specs.declared.Verification.{Verification}
use Rattle.def_psbt.specs.Types.{IN_WITNESS_SCRIPT, IN_FINAL_SCRIPTSIG, IN_FINAL_SCRIPTWITNESS}
use Rattle.def_spend.specs.Fields.{field, keys_in}
use Rattle.def_spend.specs.Input.{Spend, spends_of}
use Rattle.def_spend.specs.Kinds.{is_script_hash, is_key_hash, spent_program}

-- ---- the Script

-- a final scriptSig with a byte, and a final witness with an item: that without one is the byte 00
abbrev pub has_byte : Option Bytes → Bool
has_byte None = false
has_byte (Some value) = not (bytes_eq value [])

abbrev pub has_item : Option Bytes → Bool
has_item None = false
has_item (Some value) = not (bytes_eq value (0x00 ∷ []))

abbrev pub has_final : (fields : Map) → Bool
has_final fields = has_byte (field IN_FINAL_SCRIPTSIG fields) || has_item (field IN_FINAL_SCRIPTWITNESS fields)

-- the witness script of a program, or the state of an input that has none
abbrev pub script_for : (program : Bytes) → (script : Option Bytes) → Result Bytes State
script_for program None = Err state.NoScript
script_for program (Some script) = if bytes_eq program (program_of script) then Ok script else Err state.WrongScript

-- the Script of a program that has the HASH160 of a public key: DUP, HASH160, a push of these 20 bytes, EQUALVERIFY, CHECKSIG
-- (BIP 143, the `scriptCode` of P2WPKH)
abbrev pub key_hash_script : (program : Bytes) → Bytes
key_hash_script program = 0x76 ∷ 0xa9 ∷ 0x14 ∷ drop 2 program ++ 0x88 ∷ 0xac ∷ []

-- the Script of a program: of version 0 and 32 bytes the witness script, and of version 0 and 20 bytes that of the public key's hash,
-- whatever the map has for a witness script (BIP 141, P2WSH and P2WPKH)
abbrev pub script_of_program : (program : Bytes) → (script : Option Bytes) → Result Bytes State
script_of_program program script =
    if is_script_hash program then script_for program script
    else if is_key_hash program then Ok (key_hash_script program)
    else Err state.OtherOutput

abbrev pub script_with : Result Bytes State → (script : Option Bytes) → Result Bytes State
script_with (Ok program) script = script_of_program program script
script_with (Err state) script = Err state

-- that of an input that isn't Final
abbrev pub open_script : Spend → Result Bytes State
open_script spend = script_with (spent_program spend) (field IN_WITNESS_SCRIPT spend.fields)

-- the Script that is read and that signatures sign (BIP 143, `scriptCode`), or the state of an input of which none is
abbrev pub script_code : Spend → Result Bytes State
script_code spend = if has_final spend.fields then Err state.Final else open_script spend

-- ---- the miniscript

-- an input, and the miniscript that its Script is read as, where there is one
pub record Input : Type 0 where
  pub spend : Spend
  pub tree : Option Tree

-- a script is read as this tree, with these keys, or can't be read
abbrev pub IsReadAs : (keys : List Key) → (script : Bytes) → Option Tree → Type 0
IsReadAs keys script (Some tree) = IsDecoded keys script tree
IsReadAs keys script None = (tree : Tree) → ¬ IsReading keys script tree

abbrev pub ReadsAs : (keys : List Key) → Result Bytes State → Option Tree → Type 0
ReadsAs keys (Ok script) found = IsReadAs keys script found
ReadsAs keys (Err state) found = found ≡ None

-- the tree of an input is that of its Script, with the keys of its map
abbrev pub HasReading : Input → Type 0
HasReading input = ReadsAs (keys_in input.spend.fields) (script_code input.spend) input.tree

-- the inputs of a PSBT, each read
pub record AreInputs (verification : Verification) (psbt : Psbt) (inputs : List Input) : Type 0 where
  pub spends : map (λ input. input.spend) inputs ≡ spends_of verification psbt
  pub read : All HasReading inputs
