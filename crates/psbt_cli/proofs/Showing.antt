-- From how a call ends to what it writes.
use Rattle.std.proofs.Common.{◌≡◌, Some, Ok, inl, inr, ◌∙◌, ap, subst, List}
use Rattle.std.specs.Prelude.{Option, Result}
use Rattle.def_script.specs.Bytes.{Bytes}
use Rattle.def_psbt.specs.declared.Refusal.{Refusal}
use Rattle.def_psbt.specs.Map.{Psbt}
use Rattle.def_psbt.specs.Source.{psbt_of}
use Rattle.def_spend.specs.Reading.{Input, AreInputs}
use Rattle.def_psbt_answer.specs.declared.status.Status.{Status}
use Rattle.def_psbt_answer.specs.declared.status.Status.TheVariants as status
use Rattle.def_psbt_answer.specs.declared.words.Command.{Command}
use Rattle.def_psbt_answer.specs.declared.words.Command.TheVariants as command
use Rattle.def_psbt_answer.specs.declared.words.Request.{Request}
use Rattle.def_psbt_answer.specs.declared.words.Request.TheVariants as request
use Rattle.def_psbt_answer.specs.Words.{request_of}
use Rattle.def_psbt_answer.specs.Reply.{Reply, reply, refusal_reply, form_of, command_reply}
use Rattle.def_psbt_answer.specs.Answer.{verification_of, RepliesToSource, RepliesToRequest, RepliesToWords, Answer}
use Rattle.ms_psbt_answer_laws.proofs.Unique.{one_inputs}
use Rattle.psbt_cli.specs.Ends.{Call, Ends}
use Rattle.psbt_cli.specs.Shown.{IsCalled, IsAsked, WritesSuch, ShowsFinalized, ShowsInspected, ShowsExtracted, ShowsHashes, ShowsVerified, RefusesSource, ShowsCombined}
use Rattle.psbt_cli.proofs.Ending.{told_answer, as_fault}

-- the answer to what was told
abbrev Answered : Call → (source : Bytes) → Type 0
Answered call source = WritesSuch call (λ report. Answer call.words source call.status report)

answered : (call : Call) (source : Bytes) → Ends call → call.source.old ≡ Some source → Answered call source
answered call source (inl (report, a, w)) told = inr (report, w, told_answer call.words call.source source call.status report (inr told) a)
answered call source (inr (inl w)) told = inl (as_fault call status.WriteFault w.0 w.1)
answered call source (inr (inr (inl r))) told = inl (as_fault call status.ReadFault r.0 r.1)
answered call source (inr (inr (inr m))) told = inl (as_fault call status.Memory m.0 tt)

-- the reply to what is asked
replied : (words : List Bytes) (request : Request) (source : Bytes) (s : Status) (report : Bytes) → request_of words ≡ Some request
    → Answer words source s report → RepliesToRequest request source (reply s report)
replied words request source s report named a = subst (λ (c : Option Request). RepliesToWords c source (reply s report)) named a.replies

pub called : (request : Request) (call : Call) (source : Bytes) → Ends call → IsCalled request call source
    → WritesSuch call (λ report. RepliesToRequest request source (reply call.status report))
called request call source ends is = go (answered call source ends is.told)
  where
    go : Answered call source → WritesSuch call (λ report. RepliesToRequest request source (reply call.status report))
    go (inl fault) = inl fault
    go (inr (report, w, a)) = inr (report, w, replied call.words request source call.status report is.named a)

to_psbt : (command : Command) (source : Bytes) (psbt : Psbt) (inputs : List Input) (r : Reply) → psbt_of source ≡ Ok psbt → AreInputs (verification_of command) psbt inputs
    → RepliesToSource command (form_of source) (psbt_of source) r → r ≡ command_reply command (form_of source) psbt inputs
to_psbt command source psbt inputs r given read h =
    let replies = subst (λ (o : Result Psbt Refusal). RepliesToSource command (form_of source) o r) given h in
    replies.2 ∙ ap (command_reply command (form_of source) psbt) (one_inputs (verification_of command) psbt replies.0 inputs replies.1 read)

-- with its answer
pub shown_answer : (command : Command) (call : Call) (source : Bytes) (psbt : Psbt) (inputs : List Input) → Ends call
    → IsAsked command call source psbt inputs
    → WritesSuch call (λ report. Answer call.words source call.status report × (reply call.status report ≡ command_reply command (form_of source) psbt inputs))
shown_answer command call source psbt inputs ends is = go (answered call source ends is.called.told)
  where
    go : Answered call source
        → WritesSuch call (λ report. Answer call.words source call.status report × (reply call.status report ≡ command_reply command (form_of source) psbt inputs))
    go (inl fault) = inl fault
    go (inr (report, w, a)) =
        let h = replied call.words (request.One command) source call.status report is.called.named a in
        inr (report, w, (a, to_psbt command source psbt inputs (reply call.status report) is.given is.read h))

pub shown : (command : Command) (call : Call) (source : Bytes) (psbt : Psbt) (inputs : List Input) → Ends call → IsAsked command call source psbt inputs
    → WritesSuch call (λ report. reply call.status report ≡ command_reply command (form_of source) psbt inputs)
shown command call source psbt inputs ends is = go (called (request.One command) call source ends is.called)
  where
    go : WritesSuch call (λ report. RepliesToSource command (form_of source) (psbt_of source) (reply call.status report))
        → WritesSuch call (λ report. reply call.status report ≡ command_reply command (form_of source) psbt inputs)
    go (inl fault) = inl fault
    go (inr (report, w, h)) = inr (report, w, to_psbt command source psbt inputs (reply call.status report) is.given is.read h)

-- ---- by command

pub of_shown : (call : Call) (made : Reply) (Holds : Bytes → Type 0) → ((report : Bytes) → reply call.status report ≡ made → Holds report)
    → WritesSuch call (λ report. reply call.status report ≡ made) → WritesSuch call Holds
of_shown call made Holds f (inl fault) = inl fault
of_shown call made Holds f (inr (report, w, e)) = inr (report, w, f report e)

both : (made : Reply) (s : Status) (report : Bytes) → reply s report ≡ made → (report ≡ made.report) × (s ≡ made.status)
both made s report e = (ap (λ (r : Reply). r.report) e, ap (λ (r : Reply). r.status) e)

pub shows_finalized : (call : Call) → Ends call → ShowsFinalized call
shows_finalized call ends verification source psbt inputs is =
    of_shown call _ _ (λ report e. both _ call.status report e) (shown (command.Finalize verification) call source psbt inputs ends is)

pub shows_inspected : (call : Call) → Ends call → ShowsInspected call
shows_inspected call ends verification source psbt inputs is =
    of_shown call _ _ (λ report e. both _ call.status report e) (shown (command.Inspect verification) call source psbt inputs ends is)

pub shows_extracted : (call : Call) → Ends call → ShowsExtracted call
shows_extracted call ends source psbt inputs is = shown command.Extract call source psbt inputs ends is

pub shows_hashes : (call : Call) → Ends call → ShowsHashes call
shows_hashes call ends verification source psbt inputs is =
    of_shown call _ _ (λ report e. both _ call.status report e) (shown (command.Hashes verification) call source psbt inputs ends is)

pub shows_verified : (call : Call) → Ends call → ShowsVerified call
shows_verified call ends source psbt inputs is =
    of_shown call _ _ (λ report e. both _ call.status report e) (shown command.Verify call source psbt inputs ends is)

pub refuses_source : (call : Call) → Ends call → RefusesSource call
refuses_source call ends command source refusal is refused = go (called (request.One command) call source ends is)
  where
    go : WritesSuch call (λ report. RepliesToSource command (form_of source) (psbt_of source) (reply call.status report))
        → WritesSuch call (λ report. (report ≡ (refusal_reply refusal).report) × (call.status ≡ status.Refused))
    go (inl fault) = inl fault
    go (inr (report, w, h)) =
        inr (report, w, both (refusal_reply refusal) call.status report (subst (λ o. RepliesToSource command (form_of source) o (reply call.status report)) refused h))

pub shows_combined : (call : Call) → Ends call → ShowsCombined call
shows_combined call ends source is = called request.Combine call source ends is
