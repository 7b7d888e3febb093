-- The steps on the way to an answer. No public clause cites it, so it need not be believed.
use Rattle.std.specs.Prelude.{◌≡◌, ◌≢◌, ◌⊎◌, ◌+◌, ◌<◌, ◌≤◌, ⊤, List, length, None, Some, Result, Ok, Err}
use Rattle.def_script.specs.Bytes.{Bytes}
use Rattle.ms_io.specs.Sides.{Rose, Side}
use Rattle.ms_io.specs.Endings.{Writes, WritesNothing}
use Rattle.ms_io.specs.Reads.{IsUnread, Held}
use Rattle.def_psbt.specs.declared.Refusal.TheVariants.{TooLong}
use Rattle.def_psbt.specs.Source.{MAX_SOURCE_SIZE}
use Rattle.def_psbt_answer.specs.Lines.{refusal_line}
use Rattle.def_update.specs.Known.{Known}
use Rattle.def_descriptor_answer.specs.declared.status.Status.{Status}
use Rattle.def_descriptor_answer.specs.declared.status.Status.TheVariants as status
use Rattle.def_descriptor.specs.Steps.{HARDENED}
use Rattle.def_descriptor_answer.specs.Words.{Command, check, derive, update, command_of, Span as TheSpan}
use Rattle.def_descriptor_answer.specs.Reply.{Reply, reply, usage_line, usage_reply}
use Rattle.def_descriptor_answer.specs.Update.{known_reply}
use Rattle.def_descriptor_answer.specs.Answer.{RepliesToCommand, RepliesToWords}
use Rattle.def_descriptor_answer.specs.Laws.{HasUtf8, IsUpdate}
use Rattle.ms_descriptor_replies.specs.Asked.{derivation_at}
use Rattle.ms_descriptor_replies.specs.declared.reply.Reply.{Reply as Made}
use Rattle.descriptor_cli.specs.declared.answer.Stop.{Stop}
use Rattle.descriptor_cli.specs.declared.answer.Stop.TheVariants as stop
use Rattle.descriptor_cli.specs.declared.words.Command.{Command as Asked}
use Rattle.descriptor_cli.specs.declared.words.Command.TheVariants as asked
use Rattle.descriptor_cli.specs.declared.words.Span.{Span}

-- what the code is asked, as the definitions have it
abbrev pub seen : Asked → Command
seen (asked.Check text) = check text.now
seen (asked.Derive derivation) = derive (derivation_at derivation)
seen (asked.Update text count) = update text.now count

-- the last index of what is asked is below 2 ^ 31, and an update has an index
abbrev pub HasIndex : Command → Type 0
HasIndex (check text) = ⊤
HasIndex (derive asked) = asked.index + asked.count ≤ HARDENED
HasIndex (update text count) = 0 < count

-- and its text is UTF-8
abbrev pub IsAsked : Asked → Type 0
IsAsked command = HasUtf8 (seen command) × HasIndex (seen command)

abbrev pub span_at : Span → TheSpan
span_at span = record { index = span.index; count = span.count }

-- ---- replies

-- a reply to a source that was read
abbrev pub IsOfSource : Status → Type 0
IsOfSource status.Done = ⊤
IsOfSource status.Usage = ⊥
IsOfSource status.Refused = ⊥
IsOfSource status.PsbtRefused = ⊤
IsOfSource status.Unfit = ⊥
IsOfSource status.NoInput = ⊤
IsOfSource status.ReadFault = ⊥
IsOfSource status.WriteFault = ⊥
IsOfSource status.Memory = ⊥

-- the reply to what the source held
pub record RepliesToHeld (To : (source : Bytes) → Reply → Type 0) (source : Side) (r : Reply) : Type 0 where
  pub bytes : Bytes
  pub held : Held MAX_SOURCE_SIZE source bytes
  pub replies : To bytes r
  pub of_source : IsOfSource r.status
  pub long : MAX_SOURCE_SIZE < length bytes → r.status ≡ status.PsbtRefused

-- the source wasn't read, and it is the reply to whatever it holds, a refusal of the text where it is that to words which read; or it is
-- that to what it held
abbrev pub Answered : (To : (source : Bytes) → Reply → Type 0) → (Reads : Type 0) → (source : Side) → Reply → Type 0
Answered To Reads source r =
    (IsUnread source × (Reads → IsOfSource r.status → ⊥) × ((bytes : Bytes) → To bytes r)) ⊎ (Reads × RepliesToHeld To source r)

abbrev pub too_long_reply : Reply
too_long_reply = reply status.PsbtRefused (refusal_line TooLong)

-- how a step ends: with a reply, with a fault of the source, or for want of memory
abbrev pub EndsBy : (To : (source : Bytes) → Reply → Type 0) → (Reads : Type 0) → (source : Side) → Result Made Stop → Type 0
EndsBy To Reads source (Ok made) = Answered To Reads source (reply made.status made.report.items)
EndsBy To Reads source (Err stop.Usage) = ⊥
EndsBy To Reads source (Err stop.TooLong) = Answered To Reads source too_long_reply
EndsBy To Reads source (Err stop.ReadFault) = Rose source.before source.now × Reads
EndsBy To Reads source (Err stop.Memory) = ⊤

-- with the reply to a PSBT by what is known
abbrev pub EndsKnown : List Known → (source : Side) → Result Made Stop → Type 0
EndsKnown known = EndsBy (λ bytes r. r ≡ known_reply bytes (Ok known)) ⊤

-- with that to what is asked, for which alone an update reads
abbrev pub EndsCommand : Command → (source : Side) → Result Made Stop → Type 0
EndsCommand command = EndsBy (RepliesToCommand command) (IsUpdate (Some command))

-- with the reply to the words
abbrev pub AnswersWords : (words : List Bytes) → (source : Side) → Reply → Type 0
AnswersWords words = Answered (RepliesToWords (command_of words)) (IsUpdate (command_of words))

abbrev pub EndsWords : (words : List Bytes) → (source : Side) → Result Made Stop → Type 0
EndsWords words source (Ok made) = AnswersWords words source (reply made.status made.report.items)
EndsWords words source (Err stop.Usage) = AnswersWords words source usage_reply
EndsWords words source (Err stop.TooLong) = AnswersWords words source too_long_reply
EndsWords words source (Err stop.ReadFault) = Rose source.before source.now × IsUpdate (command_of words)
EndsWords words source (Err stop.Memory) = command_of words ≢ None

-- what is written of a reply, and with which status
abbrev pub WritesResult : Result Made Stop → (sink : Side) → Status → Type 0
WritesResult (Ok made) = Writes status.WriteFault made.status (made.report.items)
WritesResult (Err stop.Usage) = Writes status.WriteFault status.Usage usage_line
WritesResult (Err stop.TooLong) = Writes status.WriteFault status.PsbtRefused (refusal_line TooLong)
WritesResult (Err stop.ReadFault) = WritesNothing status.ReadFault
WritesResult (Err stop.Memory) = WritesNothing status.Memory
