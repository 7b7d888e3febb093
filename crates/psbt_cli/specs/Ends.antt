-- How a call of `msat-psbt` ends.
use Rattle.std.specs.Prelude.{◌≡◌, ◌≢◌, ◌⊎◌, ◌≤◌, ⊤, List, length, Option, None, Some}
use Rattle.std.specs.Io.KnownBytes.{IsAtEnd}
use Rattle.def_script.specs.Bytes.{Bytes}
use Rattle.ms_io.specs.Sides.{Rose, CallWith, Side}
use Rattle.ms_io.specs.Endings.{HasAnswerOf, EndsOf}
use Rattle.def_psbt.specs.Source.{MAX_SOURCE_SIZE}
use Rattle.def_psbt_answer.specs.declared.status.Status.{Status}
use Rattle.def_psbt_answer.specs.declared.status.Status.TheVariants as status
use Rattle.def_psbt_answer.specs.Words.{request_of}
use Rattle.def_psbt_answer.specs.Answer.{Answer}

-- the words of a call, what it did to the source and to the sink, and its status
abbrev pub Call : Type 0
Call = CallWith Status

-- ---- how it ends

-- the answer to the words and to the bytes that the source held
abbrev pub HasAnswer : (words : List Bytes) → (source : Side) → Status → (report : Bytes) → Type 0
HasAnswer = HasAnswerOf Answer

-- the words name a command
abbrev pub NamesCommand : (words : List Bytes) → Type 0
NamesCommand words = request_of words ≢ None

-- with the answer's report written whole, with a prefix of it where the sink failed, or without one: the source failed, or memory was
-- wanting, and the words name a command
abbrev pub Ends : Call → Type 0
Ends = EndsOf Answer status.ReadFault status.WriteFault status.Memory NamesCommand NamesCommand

-- ---- which status comes

-- memory was wanting, or a fault came, which was counted
abbrev pub IsFault : Status → (source sink : Side) → Type 0
IsFault status.Done source sink = ⊥
IsFault status.Usage source sink = ⊥
IsFault status.Refused source sink = ⊥
IsFault status.Open source sink = ⊥
IsFault status.ReadFault source sink = Rose source.before source.now
IsFault status.WriteFault source sink = Rose sink.before sink.now
IsFault status.Memory source sink = ⊤

-- with this status, unless memory was wanting or a fault came
abbrev pub EndsAs : Status → Call → Type 0
EndsAs wanted call = (call.status ≡ wanted) ⊎ IsFault call.status call.source call.sink

-- words that name no command are refused, whatever memory there is
abbrev pub EndsAsUsage : Call → Type 0
EndsAsUsage call =
    request_of call.words ≡ None →
    (call.status ≡ status.Usage) ⊎ ((call.status ≡ status.WriteFault) × Rose call.sink.before call.sink.now)

-- the call ends with the answer's status: of words that name no command whatever the source holds, and of others where it
-- tells what it holds
abbrev pub EndsAsAnswered : Call → Type 0
EndsAsAnswered call =
    (bytes : Bytes) (s : Status) (report : Bytes) →
    (request_of call.words ≡ None) ⊎ (call.source.old ≡ Some bytes) →
    Answer call.words bytes s report → EndsAs s call

-- ---- what is read

-- the source tells bytes that are not too many
abbrev pub TellsShortSource : Option Bytes → Type 0
TellsShortSource None = ⊥
TellsShortSource (Some bytes) = length bytes ≤ MAX_SOURCE_SIZE

-- the source was read to its end, for a refusal unless it is too long
abbrev pub IsReadFor : Status → (source : Side) → Type 0
IsReadFor status.Done source = IsAtEnd source.new
IsReadFor status.Usage source = ⊤
IsReadFor status.Refused source = TellsShortSource source.old → IsAtEnd source.new
IsReadFor status.Open source = IsAtEnd source.new
IsReadFor status.ReadFault source = ⊤
IsReadFor status.WriteFault source = ⊤
IsReadFor status.Memory source = ⊤
