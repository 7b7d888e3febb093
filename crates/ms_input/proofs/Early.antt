-- The states of inputs of which no Script is read.
use Rattle.std.proofs.Common.{◌≡◌, Bool, true, false, Option, Some, None, Result, Ok, Err, if◌then◌else◌, refl}
use Rattle.std.specs.Prelude.{⊤}
use Rattle.std.specs.Str.{bytes_eq}
use Rattle.def_script.specs.Bytes.{Bytes}
use Rattle.def_machine.specs.Program.{program_of}
use Rattle.def_spend.specs.declared.State.{State}
use Rattle.def_spend.specs.declared.State.TheVariants as state
use Rattle.def_psbt.specs.Types.{IN_REDEEM_SCRIPT, IN_WITNESS_SCRIPT}
use Rattle.def_spend.specs.Fields.{field}
use Rattle.def_spend.specs.Utxo.{Utxo}
use Rattle.def_spend.specs.Utxo as utxo
use Rattle.def_spend.specs.Input.{Spend}
use Rattle.def_spend.specs.Kinds.{is_p2sh, p2sh_of, redeemed, program_in, program_of_utxo, is_script_hash, is_key_hash, spent_utxo, spent_program}
use Rattle.def_spend.specs.Reading.{has_final, script_for, key_hash_script, script_of_program, script_with, open_script, script_code}
use Rattle.ms_input.specs.Settled.{is_late}

-- bytes are found, or a state that doesn't hang on what the map holds
abbrev pub IsTold : Result Bytes State → Type 0
IsTold (Ok bytes) = ⊤
IsTold (Err told) = is_late told ≡ false

told_redeemed : (spent : Bytes) (o : Option Bytes) → IsTold (redeemed spent o)
told_redeemed spent None = refl
told_redeemed spent (Some redeem) = go (bytes_eq spent (p2sh_of redeem))
  where
    go : (b : Bool) → IsTold (if b then Ok redeem else Err state.WrongScript)
    go true = tt
    go false = refl

told_program : (spent : Bytes) (o : Option Bytes) → IsTold (program_in spent o)
told_program spent o = go (is_p2sh spent)
  where
    go : (b : Bool) → IsTold (if b then redeemed spent o else Ok spent)
    go true = told_redeemed spent o
    go false = tt

told_utxo : (spent : Utxo) (o : Option Bytes) → IsTold (program_of_utxo spent o)
told_utxo utxo.none o = refl
told_utxo utxo.wrong o = refl
told_utxo (utxo.proved output) o = told_program output.script o
told_utxo (utxo.claimed output) o = told_program output.script o

told_for : (program : Bytes) (o : Option Bytes) → IsTold (script_for program o)
told_for program None = refl
told_for program (Some script) = go (bytes_eq program (program_of script))
  where
    go : (b : Bool) → IsTold (if b then Ok script else Err state.WrongScript)
    go true = tt
    go false = refl

told_script : (program : Bytes) (o : Option Bytes) → IsTold (script_of_program program o)
told_script program o = go (is_script_hash program) (is_key_hash program)
  where
    go : (b k : Bool) → IsTold (if b then script_for program o else if k then Ok (key_hash_script program) else Err state.OtherOutput)
    go true k = told_for program o
    go false true = tt
    go false false = refl

told_with : (r : Result Bytes State) (o : Option Bytes) → IsTold r → IsTold (script_with r o)
told_with (Ok program) o told = told_script program o
told_with (Err early) o told = told

pub is_told : (spend : Spend) → IsTold (script_code spend)
is_told spend = go (has_final spend.fields)
  where
    go : (b : Bool) → IsTold (if b then Err state.Final else open_script spend)
    go true = refl
    go false = told_with (spent_program spend) (field IN_WITNESS_SCRIPT spend.fields) (told_utxo (spent_utxo spend) (field IN_REDEEM_SCRIPT spend.fields))
