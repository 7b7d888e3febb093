-- What `finalize` writes, read again: nothing is lost.
use Rattle.std.specs.Prelude.{◌≡◌, ◌≤◌, true, false, List, [], All, length, map, unwrap_or, Some, Ok}
use Rattle.def_script.specs.Bytes.{Bytes, IsBytes}
use Rattle.def_psbt.specs.Map.{Psbt}
use Rattle.def_psbt.specs.Reading.{read_psbt}
use Rattle.def_psbt.specs.Source.{MAX_SOURCE_SIZE, psbt_of}
use Rattle.def_spend.specs.declared.Verification.{Verification}
use Rattle.def_psbt.specs.Types.{IN_FINAL_SCRIPTSIG, IN_FINAL_SCRIPTWITNESS}
use Rattle.def_spend.specs.Fields.{field}
use Rattle.def_spend.specs.Reading.{Input, has_final, AreInputs}
use Rattle.def_spend.specs.States.{state_of, is_ready}
use Rattle.def_spend.specs.Finalized.{script_sig_of, witness_of, written_map, finalized}
use Rattle.def_psbt_answer.specs.declared.status.Status.{Status}
use Rattle.def_psbt_answer.specs.declared.words.Command.TheVariants as command
use Rattle.def_psbt_answer.specs.declared.words.Request.TheVariants as request
use Rattle.def_psbt_answer.specs.Words.{request_of}
use Rattle.def_psbt_answer.specs.declared.words.Form.{Form}
use Rattle.def_psbt_answer.specs.Report.{finalized_text, finalize_report}
use Rattle.def_psbt_answer.specs.Answer.{Answer}
use Rattle.ms_given_laws.specs.Given.{OfEachGiven, OfEachPsbt, OfEachInput}

-- the bytes that are written are read as the PSBT with each input that is Ready made final
abbrev pub WrittenIsRead : Type 0
WrittenIsRead = OfEachPsbt (λ psbt inputs. read_psbt (finalized_text psbt inputs) ≡ Ok (finalized psbt inputs))

-- a Ready input is written with its witness as the final one, and with its scriptSig, where that has a byte
pub record IsMadeFinal (input : Input) : Type 0 where
  pub witness : field IN_FINAL_SCRIPTWITNESS (written_map input) ≡ Some (witness_of input)
  pub script_sig : unwrap_or (field IN_FINAL_SCRIPTSIG (written_map input)) [] ≡ script_sig_of input.spend
  pub final : has_final (written_map input) ≡ true

abbrev pub ReadyIsMadeFinal : Type 0
ReadyIsMadeFinal = OfEachInput (λ input. is_ready (state_of input) ≡ true → IsMadeFinal input)

-- a report is a source of the same transaction, the same global pairs and the same maps of outputs, and of the map of each
-- input as it is written: that of a Ready one with its kept pairs and its final fields, that of another one as it was.
-- None of its inputs is Ready
pub record IsSourceOf (verification : Verification) (psbt : Psbt) (inputs : List Input) (report : Bytes) : Type 0 where
  pub written : Psbt
  pub read : psbt_of report ≡ Ok written
  pub transaction : written.transaction ≡ psbt.transaction
  pub global : written.global ≡ psbt.global
  pub outputs : written.outputs ≡ psbt.outputs
  pub maps : written.inputs ≡ map written_map inputs
  pub none_ready : (again : List Input) → AreInputs verification written again → All (λ input. is_ready (state_of input) ≡ false) again

-- what `finalize` writes, in either form, is such a source, where it isn't too long
abbrev pub ReportIsSource : Type 0
ReportIsSource =
    OfEachGiven (λ psbt. (verification : Verification) (inputs : List Input) → AreInputs verification psbt inputs → (form : Form) →
    length (finalize_report form psbt inputs) ≤ MAX_SOURCE_SIZE →
    IsSourceOf verification psbt inputs (finalize_report form psbt inputs))

-- and `finalize` answers to what it wrote, where that isn't too long, as it answered before: the same status and the same
-- bytes
abbrev pub AnsweredAgain : Type 0
AnsweredAgain =
    (words : List Bytes) (verification : Verification) (source : Bytes) (psbt : Psbt) (status : Status) (report : Bytes) → IsBytes source →
    request_of words ≡ Some (request.One (command.Finalize verification)) → psbt_of source ≡ Ok psbt → length report ≤ MAX_SOURCE_SIZE →
    Answer words source status report → Answer words report status report
