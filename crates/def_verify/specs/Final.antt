-- What the final fields of an input have consensus run (BIP 16, BIP 141; Bitcoin Core: `VerifyScript`, `VerifyWitnessProgram`).
use Rattle.std.specs.Prelude.{◌-◌, ◌==◌, ◌&&◌, ◌||◌, not, Bool, List, [], ◌∷◌, length, take, slice_get, if◌then◌else◌, Option, Some, None, unwrap_or, Result, Ok, Err}
use Rattle.std.specs.Str.{bytes_eq}
use Rattle.def_script.specs.Bytes.{Bytes}
use Rattle.def_machine.specs.Program.{program_of}
use Rattle.def_psbt.specs.Forms.{witness_of}
use Rattle.def_psbt.specs.Types.{IN_FINAL_SCRIPTSIG}
use Rattle.def_spend.specs.Fields.{field}
use Rattle.def_spend.specs.Finalized.{final_witness}
use Rattle.def_spend.specs.Input.{Spend}
use Rattle.def_spend.specs.Kinds.{is_p2sh, p2sh_of, is_script_hash, is_key_hash}
use Rattle.def_spend.specs.Reading.{key_hash_script}
use Rattle.def_verify.specs.declared.Flaw.{Flaw}
use Rattle.def_verify.specs.declared.Flaw.TheVariants as flaw

-- ---- the fields

-- the final scriptSig, which is empty where there is none
abbrev pub final_script_sig : Spend → Bytes
final_script_sig spend = unwrap_or (field IN_FINAL_SCRIPTSIG spend.fields) []

-- the items of the final witness, bottom first: none where there is no final witness
abbrev pub final_items : Spend → List Bytes
final_items spend = unwrap_or (witness_of (final_witness spend.fields)) []

-- ---- the program

-- the redeem script of a P2SH output, where the scriptSig is the one push of it
abbrev pub pushed_program : (spent script_sig : Bytes) → Option Bytes
pushed_program spent [] = None
pushed_program spent (size ∷ redeem) = if (size == length redeem) && bytes_eq spent (p2sh_of redeem) then Some redeem else None

-- the program of a spent Script: of P2SH what the scriptSig pushes, of any other one itself
abbrev pub final_program : (spent script_sig : Bytes) → Option Bytes
final_program spent script_sig = if is_p2sh spent then pushed_program spent script_sig else Some spent

-- ---- the run

-- a Script, and the stack on which it is run, bottom first
abbrev pub Execution : Type 0
Execution = Bytes × List Bytes

-- of P2WSH the last item on the others
abbrev pub script_execution : (program : Bytes) → (script : Option Bytes) → (stack : List Bytes) → Result Execution Flaw
script_execution program None stack = Err flaw.WrongScript
script_execution program (Some script) stack =
    if bytes_eq program (program_of script) then Ok (script, stack) else Err flaw.WrongScript

-- of P2WPKH the Script of the key's hash on both items
abbrev pub key_execution : (program : Bytes) → (items : List Bytes) → Result Execution Flaw
key_execution program items = if length items == 2 then Ok (key_hash_script program, items) else Err flaw.ItemCount

abbrev pub program_execution : (program : Bytes) → (items : List Bytes) → Result Execution Flaw
program_execution program items =
    if is_script_hash program then script_execution program (slice_get items (length items - 1)) (take (length items - 1) items)
    else key_execution program items

-- with no program: by older rules, which aren't run here, where there is no witness
abbrev pub no_execution : (items : List Bytes) → Result Execution Flaw
no_execution [] = Err flaw.OtherOutput
no_execution (item ∷ items) = Err flaw.ScriptSig

-- a scriptSig beside an output that isn't P2SH must be empty
abbrev pub has_scriptsig_beside : (spent script_sig : Bytes) → Bool
has_scriptsig_beside spent script_sig = not (is_p2sh spent) && not (bytes_eq script_sig [])

abbrev pub execution_by : (program : Option Bytes) → (beside : Bool) → (items : List Bytes) → Result Execution Flaw
execution_by None beside items = no_execution items
execution_by (Some program) beside items =
    if not (is_script_hash program || is_key_hash program) then Err flaw.OtherOutput
    else if beside then Err flaw.ScriptSig
    else program_execution program items

-- what is run for a spent Script, or the first flaw
abbrev pub execution_of : (spent script_sig : Bytes) → (items : List Bytes) → Result Execution Flaw
execution_of spent script_sig items = execution_by (final_program spent script_sig) (has_scriptsig_beside spent script_sig) items
