-- The steps on the way to an answer. No public clause cites it, so it need not be believed.
use Rattle.std.specs.Prelude.{◌≡◌, ◌≢◌, ◌⊎◌, ⊤, List, None, Some, Result, Ok, Err}
use Rattle.def_script.specs.Bytes.{Bytes}
use Rattle.ms_io.specs.Sides.{Rose, Side}
use Rattle.ms_io.specs.Endings.{Writes, WritesNothing}
use Rattle.ms_io.specs.Reads.{Held}
use Rattle.def_psbt.specs.declared.Refusal.TheVariants.{TooLong}
use Rattle.def_psbt.specs.Source.{MAX_SOURCE_SIZE}
use Rattle.def_psbt_answer.specs.declared.status.Status.{Status}
use Rattle.def_psbt_answer.specs.declared.status.Status.TheVariants as status
use Rattle.def_psbt_answer.specs.declared.words.Request.{Request}
use Rattle.def_psbt_answer.specs.Words.{request_of}
use Rattle.def_psbt_answer.specs.Lines.{refusal_line}
use Rattle.def_answer.specs.Reply.{usage_line}
use Rattle.def_psbt_answer.specs.Reply.{Reply, reply, usage_reply, refusal_reply}
use Rattle.def_psbt_answer.specs.Answer.{RepliesToRequest}
use Rattle.ms_psbt_report.specs.declared.replies.reply.Reply.{Reply as Made}
use Rattle.psbt_cli.specs.declared.answer.Stop.{Stop}
use Rattle.psbt_cli.specs.declared.answer.Stop.TheVariants as stop

-- the reply to what is asked, with what the source held
pub record AnswersRequest (request : Request) (source : Side) (r : Reply) : Type 0 where
  pub bytes : Bytes
  pub held : Held MAX_SOURCE_SIZE source bytes
  pub replies : RepliesToRequest request bytes r

-- the reply to the words
abbrev pub AnswersWords : (words : List Bytes) → (source : Side) → Reply → Type 0
AnswersWords words source r =
    ((request_of words ≡ None) × (r ≡ usage_reply))
    ⊎ ((request : Request) × (request_of words ≡ Some request) × AnswersRequest request source r)

-- how a step ends: with a reply that is an answer, with a fault of the source, or for want of memory
abbrev pub Ended : (IsAnswer : Reply → Type 0) → (Fails Wants : Type 0) → Result Made Stop → Type 0
Ended IsAnswer Fails Wants (Ok made) = IsAnswer (reply made.status (made.report.items))
Ended IsAnswer Fails Wants (Err stop.Usage) = IsAnswer usage_reply
Ended IsAnswer Fails Wants (Err stop.TooLong) = IsAnswer (refusal_reply TooLong)
Ended IsAnswer Fails Wants (Err stop.ReadFault) = Fails
Ended IsAnswer Fails Wants (Err stop.Memory) = Wants

-- with the reply to what is asked, but never with that to words that ask nothing
abbrev pub EndsRequest : Request → (source : Side) → Result Made Stop → Type 0
EndsRequest request source (Ok made) = AnswersRequest request source (reply made.status (made.report.items))
EndsRequest request source (Err stop.Usage) = ⊥
EndsRequest request source (Err stop.TooLong) = AnswersRequest request source (refusal_reply TooLong)
EndsRequest request source (Err stop.ReadFault) = Rose source.before source.now
EndsRequest request source (Err stop.Memory) = ⊤

-- with the reply to the words
abbrev pub EndsWords : (words : List Bytes) → (source : Side) → Result Made Stop → Type 0
EndsWords words source =
    Ended (AnswersWords words source) (Rose source.before source.now × (request_of words ≢ None)) (request_of words ≢ None)

-- what is written of a reply, and with which status
abbrev pub WritesResult : Result Made Stop → (sink : Side) → Status → Type 0
WritesResult (Ok made) = Writes status.WriteFault made.status (made.report.items)
WritesResult (Err stop.Usage) = Writes status.WriteFault status.Usage usage_line
WritesResult (Err stop.TooLong) = Writes status.WriteFault status.Refused (refusal_line TooLong)
WritesResult (Err stop.ReadFault) = WritesNothing status.ReadFault
WritesResult (Err stop.Memory) = WritesNothing status.Memory
