-- The kinds of spent outputs: the program that guards one, which is its Script, or of which it has the hash (BIP 16, BIP 141).
use Rattle.std.specs.Prelude.{◌≡◌, ◌⊎◌, ◌==◌, ◌&&◌, Bool, true, false, [], ◌∷◌, ◌++◌, length, slice_index, if◌then◌else◌, Option, Some, None, Result, Ok, Err, unwrap_or}
use Rattle.std.specs.Str.{bytes_eq}
use Rattle.def_hash.specs.Hash.{hash160}
use Rattle.def_script.specs.Bytes.{Bytes}
use Rattle.def_spend.specs.declared.Kind.{Kind}
use Rattle.def_spend.specs.declared.Kind.TheVariants as kind
use Rattle.def_spend.specs.declared.State.{State}
use Rattle.def_spend.specs.declared.State.TheVariants as state
use Rattle.def_psbt.specs.Types.{IN_REDEEM_SCRIPT}
use Rattle.def_spend.specs.Fields.{field}
use Rattle.def_spend.specs.Utxo.{Utxo, utxo_of}
use Rattle.def_spend.specs.Utxo as utxo
use Rattle.def_spend.specs.Input.{Spend}

-- ---- the program

-- HASH160, a push of 20 bytes, EQUAL (BIP 16)
abbrev pub is_p2sh : (script : Bytes) → Bool
is_p2sh script =
    (length script == 23) && (slice_index script 0 == 0xa9) && (slice_index script 1 == 0x14) && (slice_index script 22 == 0x87)

-- the Script of the P2SH output of a redeem script
abbrev pub p2sh_of : (redeem : Bytes) → Bytes
p2sh_of redeem = 0xa9 ∷ 0x14 ∷ hash160 redeem ++ 0x87 ∷ []

-- the redeem script of a P2SH output, or the state of an input that hasn't it
abbrev pub redeemed : (spent : Bytes) → (redeem : Option Bytes) → Result Bytes State
redeemed spent None = Err state.NoScript
redeemed spent (Some redeem) = if bytes_eq spent (p2sh_of redeem) then Ok redeem else Err state.WrongScript

-- the program of a spent Script: of P2SH the redeem script, of any other one itself; or the state of an input that has none
abbrev pub program_in : (spent : Bytes) → (redeem : Option Bytes) → Result Bytes State
program_in spent redeem = if is_p2sh spent then redeemed spent redeem else Ok spent

abbrev pub program_of_utxo : Utxo → (redeem : Option Bytes) → Result Bytes State
program_of_utxo utxo.none redeem = Err state.NoUtxo
program_of_utxo utxo.wrong redeem = Err state.WrongUtxo
program_of_utxo (utxo.proved output) redeem = program_in output.script redeem
program_of_utxo (utxo.claimed output) redeem = program_in output.script redeem

-- whether the spent output is known to be P2SH
abbrev pub is_nested : Utxo → Bool
is_nested utxo.none = false
is_nested utxo.wrong = false
is_nested (utxo.proved output) = is_p2sh output.script
is_nested (utxo.claimed output) = is_p2sh output.script

-- the output that an input spends
abbrev pub spent_utxo : Spend → Utxo
spent_utxo spend = utxo_of spend.input.outpoint spend.fields

-- the program of the output that an input spends, or the state of an input that has none
abbrev pub spent_program : Spend → Result Bytes State
spent_program spend = program_of_utxo (spent_utxo spend) (field IN_REDEEM_SCRIPT spend.fields)

-- ---- the kind

-- version 0 and 32 bytes (BIP 141, P2WSH)
abbrev pub is_script_hash : (program : Bytes) → Bool
is_script_hash program = (length program == 34) && (slice_index program 0 == 0x00) && (slice_index program 1 == 0x20)

-- version 0 and 20 bytes (BIP 141, P2WPKH)
abbrev pub is_key_hash : (program : Bytes) → Bool
is_key_hash program = (length program == 22) && (slice_index program 0 == 0x00) && (slice_index program 1 == 0x14)

-- the kind of a program, in P2SH or by itself
abbrev pub kind_by : (nested : Bool) → (program : Bytes) → Kind
kind_by nested program =
    if is_script_hash program then (if nested then kind.P2shP2wsh else kind.P2wsh)
    else if is_key_hash program then (if nested then kind.P2shP2wpkh else kind.P2wpkh)
    else kind.Other

abbrev pub kind_with : (nested : Bool) → Result Bytes State → Kind
kind_with nested (Ok program) = kind_by nested program
kind_with nested (Err state) = kind.Other

-- the kind of the output that an input spends
abbrev pub kind_of : Spend → Kind
kind_of spend = kind_with (is_nested (spent_utxo spend)) (spent_program spend)

-- ---- the scriptSig

-- the one push of a string of at most 75 bytes: its length, and then it
abbrev pub pushed : Bytes → Bytes
pushed bytes = length bytes ∷ bytes

-- the scriptSig that spends an output of a kind, where that is known: empty, and of P2SH the one push of the redeem script
abbrev pub script_sig_by : Kind → (redeem : Bytes) → Option Bytes
script_sig_by kind.P2wsh redeem = Some []
script_sig_by kind.P2wpkh redeem = Some []
script_sig_by kind.P2shP2wsh redeem = Some (pushed redeem)
script_sig_by kind.P2shP2wpkh redeem = Some (pushed redeem)
script_sig_by kind.Other redeem = None

abbrev pub open_script_sig : Spend → Option Bytes
open_script_sig spend = script_sig_by (kind_of spend) (unwrap_or (field IN_REDEEM_SCRIPT spend.fields) [])

-- an output is a program, and the scriptSig is empty; or it is P2SH of the program, and the scriptSig is the one push of it
abbrev pub IsGuardedBy : (program output script_sig : Bytes) → Type 0
IsGuardedBy program output script_sig =
    ((output ≡ program) × (script_sig ≡ [])) ⊎ ((output ≡ p2sh_of program) × (script_sig ≡ pushed program))

-- ---- the witness

-- whether the witness that spends an output of a kind ends in a Script: the witness script of P2WSH (BIP 141). That of P2WPKH is a
-- signature and the public key
abbrev pub ends_in_script : Kind → Bool
ends_in_script kind.P2wsh = true
ends_in_script kind.P2wpkh = false
ends_in_script kind.P2shP2wsh = true
ends_in_script kind.P2shP2wpkh = false
ends_in_script kind.Other = false
