-- What it says of an input that its final fields are valid.
use Rattle.std.specs.Prelude.{◌≡◌, ◌⊎◌, ℕ, true, List, [], ◌∷◌, ◌++◌, length, Some}
use Rattle.def_script.specs.Bytes.{Bytes}
use Rattle.def_machine.specs.Stacks.{Pairs}
use Rattle.def_machine.specs.Program.{program_of}
use Rattle.def_machine.specs.Run.{run, accepted}
use Rattle.def_psbt.specs.Transaction.{TransactionOutput}
use Rattle.def_spend.specs.Kinds.{is_key_hash, IsGuardedBy}
use Rattle.def_spend.specs.Reading.{Input, key_hash_script}
use Rattle.def_spend.specs.States.{state_of, is_final}
use Rattle.def_verify.specs.Final.{final_script_sig, final_items}
use Rattle.def_verify.specs.Verdict.{consensus_given, verdict_of, valid}
use Rattle.ms_spend_laws.specs.Ready.{spent_output}

-- a Script is run on a stack for a program: of P2WSH the last item, of which it is the program, on the others; of P2WPKH that of the
-- key's hash on both items
abbrev pub IsRunFor : (program : Bytes) → (items : List Bytes) → (script : Bytes) → (stack : List Bytes) → Type 0
IsRunFor program items script stack =
    ((program ≡ program_of script) × (items ≡ stack ++ script ∷ []))
    ⊎ ((is_key_hash program ≡ true) × (script ≡ key_hash_script program) × (items ≡ stack) × (length stack ≡ 2))

-- the program is that of the spent output, and the one of which the final scriptSig is the push where that is P2SH; the items of the final
-- witness have this Script run for it; and the run is accepted under exactly the pairs that consensus takes, and passes these
pub record IsValid (input : Input) (script : Bytes) (checks : Pairs) : Type 0 where
  pub final : is_final (state_of input) ≡ true
  pub output : TransactionOutput
  pub spent : spent_output input.spend ≡ Some output
  pub program : Bytes
  pub guarded : IsGuardedBy program output.script (final_script_sig input.spend)
  pub stack : List Bytes
  pub runs : IsRunFor program (final_items input.spend) script stack
  pub ops : ℕ
  pub peak : ℕ
  pub run : run (consensus_given input.spend script) script stack ≡ accepted ops peak checks

-- so it is of each input, of whichever PSBT
abbrev pub ValidIsAccepted : Type 0
ValidIsAccepted = (input : Input) (script : Bytes) (checks : Pairs) → verdict_of input ≡ valid script checks → IsValid input script checks
