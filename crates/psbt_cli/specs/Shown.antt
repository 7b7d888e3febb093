-- What a call of `msat-psbt` writes, by its command.
use Rattle.std.specs.Prelude.{◌≡◌, ◌⊎◌, List, Some, Ok, Err}
use Rattle.std.specs.Io.KnownBytes.{Appends}
use Rattle.def_script.specs.Bytes.{Bytes, IsBytes}
use Rattle.def_combine.specs.Combine.{combined_of}
use Rattle.def_psbt.specs.declared.Refusal.{Refusal}
use Rattle.def_psbt.specs.Map.{Psbt}
use Rattle.def_psbt.specs.Source.{psbt_of}
use Rattle.def_spend.specs.declared.Verification.{Verification}
use Rattle.def_spend.specs.Reading.{Input, AreInputs}
use Rattle.def_psbt_answer.specs.declared.status.Status.TheVariants as status
use Rattle.def_psbt_answer.specs.declared.words.Command.{Command}
use Rattle.def_psbt_answer.specs.declared.words.Command.TheVariants as command
use Rattle.def_psbt_answer.specs.declared.words.Request.{Request}
use Rattle.def_psbt_answer.specs.declared.words.Request.TheVariants as request
use Rattle.def_psbt_answer.specs.Words.{request_of}
use Rattle.def_psbt_answer.specs.Lines.{refusal_line}
use Rattle.def_psbt_answer.specs.Report.{inspect_report, hashes_report, finalize_report}
use Rattle.def_psbt_answer.specs.Verified.{verify_report}
use Rattle.def_psbt_answer.specs.Reply.{reply, settled_status, verify_status, form_of, extract_reply, combine_reply}
use Rattle.def_psbt_answer.specs.Answer.{verification_of}
use Rattle.psbt_cli.specs.Ends.{Call, IsFault}

-- ---- what is asked, and what is shown

-- the words ask this, and the source tells bytes
pub record IsCalled (request : Request) (call : Call) (source : Bytes) : Type 0 where
  pub named : request_of call.words ≡ Some request
  pub told : call.source.old ≡ Some source
  pub bytes : IsBytes source

-- and they give this PSBT, with these inputs, each read, of which the signatures count that the command says
pub record IsAsked (command : Command) (call : Call) (source : Bytes) (psbt : Psbt) (inputs : List Input) : Type 0 where
  pub called : IsCalled (request.One command) call source
  pub given : psbt_of source ≡ Ok psbt
  pub read : AreInputs (verification_of command) psbt inputs

-- a report of which this holds was written whole, unless memory was wanting or a fault came
abbrev pub WritesSuch : Call → ((report : Bytes) → Type 0) → Type 0
WritesSuch call Holds = IsFault call.status call.source call.sink ⊎ ((report : Bytes) × Appends call.sink.old call.sink.new report × Holds report)

-- so is one of what was asked
abbrev pub Shows : Command → Call → ((source : Bytes) → Psbt → List Input → (report : Bytes) → Type 0) → Type 0
Shows command call Holds =
    (source : Bytes) (psbt : Psbt) (inputs : List Input) → IsAsked command call source psbt inputs → WritesSuch call (Holds source psbt inputs)

-- ---- what is written, whether signatures are verified or not

-- the PSBT with each input that is Ready made final, in the form in which it came
abbrev pub ShowsFinalized : Call → Type 0
ShowsFinalized call =
    (verification : Verification) → Shows (command.Finalize verification) call (λ source psbt inputs report.
    (report ≡ finalize_report (form_of source) psbt inputs) × (call.status ≡ settled_status inputs))

-- what the transaction does with the money, and what each input is and lacks
abbrev pub ShowsInspected : Call → Type 0
ShowsInspected call =
    (verification : Verification) → Shows (command.Inspect verification) call (λ source psbt inputs report.
    (report ≡ inspect_report psbt.transaction inputs) × (call.status ≡ settled_status inputs))

-- the network transaction, or which input isn't final
abbrev pub ShowsExtracted : Call → Type 0
ShowsExtracted call = Shows command.Extract call (λ source psbt inputs report. reply call.status report ≡ extract_reply psbt inputs)

-- what the signatures of each input sign
abbrev pub ShowsHashes : Call → Type 0
ShowsHashes call =
    (verification : Verification) →
    Shows (command.Hashes verification) call (λ source psbt inputs report. (report ≡ hashes_report inputs) × (call.status ≡ status.Done))

-- of each input whether its final fields are valid
abbrev pub ShowsVerified : Call → Type 0
ShowsVerified call =
    Shows command.Verify call (λ source psbt inputs report. (report ≡ verify_report inputs) × (call.status ≡ verify_status inputs))

-- a source that gives no PSBT is refused, by the first place that is wrong
abbrev pub RefusesSource : Call → Type 0
RefusesSource call =
    (command : Command) (source : Bytes) (refusal : Refusal) → IsCalled (request.One command) call source → psbt_of source ≡ Err refusal →
    WritesSuch call (λ report. (report ≡ refusal_line refusal) × (call.status ≡ status.Refused))

-- the PSBT that several give together, or why nothing is combined
abbrev pub ShowsCombined : Call → Type 0
ShowsCombined call =
    (source : Bytes) → IsCalled request.Combine call source → WritesSuch call (λ report. reply call.status report ≡ combine_reply (combined_of source))
