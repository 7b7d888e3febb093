-- What is said of an input: that it is open, that its final fields are valid, or why that isn't known.
use Rattle.std.specs.Prelude.{Bool, true, false, if◌then◌else◌, Result, Ok, Err}
use Rattle.def_script.specs.Bytes.{Bytes}
use Rattle.def_machine.specs.declared.ScriptFault.{ScriptFault}
use Rattle.def_machine.specs.declared.ScriptFault.TheVariants as fault
use Rattle.def_machine.specs.Stacks.{Pairs}
use Rattle.def_machine.specs.Machine.{Given}
use Rattle.def_machine.specs.Run.{Outcome, accepted, refused, run}
use Rattle.def_psbt.specs.Transaction.{TransactionOutput}
use Rattle.def_spend.specs.declared.State.{State}
use Rattle.def_spend.specs.Input.{Spend, locks_of}
use Rattle.def_spend.specs.Kinds.{spent_utxo}
use Rattle.def_spend.specs.Reading.{Input}
use Rattle.def_spend.specs.States.{state_of, is_final}
use Rattle.def_spend.specs.Utxo.{Utxo}
use Rattle.def_spend.specs.Utxo as utxo
use Rattle.def_verify.specs.declared.Flaw.{Flaw}
use Rattle.def_verify.specs.declared.Flaw.TheVariants as flaw
use Rattle.def_verify.specs.Check.{consensus_check}
use Rattle.def_verify.specs.Final.{Execution, final_script_sig, final_items, execution_of}

pub data Verdict : Type 0 where
  -- it isn't Final: its state
  not_final : State → Verdict
  -- the first flaw of its final fields
  flawed : Flaw → Verdict
  -- the run of this Script accepts: the pairs that passed, in order
  valid : (script : Bytes) → (checks : Pairs) → Verdict

-- what the run is given: the pairs that consensus takes, and the transaction's locks
abbrev pub consensus_given : Spend → (script : Bytes) → Given
consensus_given spend script = record { checker = consensus_check spend script; locks = locks_of spend }

abbrev pub verdict_by : (script : Bytes) → Outcome → Verdict
verdict_by script (accepted ops peak checks) = valid script checks
verdict_by script (refused fault place) = flawed (flaw.Refused fault place)

-- what comes of a run, where there is one
abbrev pub ran_verdict : Spend → Result Execution Flaw → Verdict
ran_verdict spend (Ok execution) = verdict_by execution.0 (run (consensus_given spend execution.0) execution.0 execution.1)
ran_verdict spend (Err flaw) = flawed flaw

abbrev pub output_verdict : Spend → TransactionOutput → Verdict
output_verdict spend output = ran_verdict spend (execution_of output.script (final_script_sig spend) (final_items spend))

abbrev pub utxo_verdict : Spend → Utxo → Verdict
utxo_verdict spend utxo.none = flawed flaw.NoUtxo
utxo_verdict spend utxo.wrong = flawed flaw.WrongUtxo
utxo_verdict spend (utxo.proved output) = output_verdict spend output
utxo_verdict spend (utxo.claimed output) = output_verdict spend output

-- of an input that is Final
abbrev pub final_verdict : Spend → Verdict
final_verdict spend = utxo_verdict spend (spent_utxo spend)

abbrev pub verdict_of : Input → Verdict
verdict_of input = if is_final (state_of input) then final_verdict input.spend else not_final (state_of input)

-- ---- what verdicts say

abbrev pub is_valid : Verdict → Bool
is_valid (not_final state) = false
is_valid (flawed flaw) = false
is_valid (valid script checks) = true

abbrev pub is_unsupported : ScriptFault → Bool
is_unsupported fault.Unsupported = true
is_unsupported other = false

-- a flaw that leaves open whether the input is valid: what isn't known, and what isn't run here
abbrev pub is_unknown : Flaw → Bool
is_unknown flaw.NoUtxo = true
is_unknown flaw.WrongUtxo = true
is_unknown flaw.OtherOutput = true
is_unknown flaw.ScriptSig = false
is_unknown flaw.WrongScript = false
is_unknown flaw.ItemCount = false
is_unknown (flaw.Refused fault place) = is_unsupported fault
