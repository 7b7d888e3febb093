-- How a call of `msat-descriptor` ends.
use Rattle.std.specs.Prelude.{◌≡◌, ◌≢◌, ◌⊎◌, ◌≤◌, ⊤, List, length, Option, None, Some}
use Rattle.std.specs.Io.KnownBytes.{IsAtEnd}
use Rattle.def_script.specs.Bytes.{Bytes}
use Rattle.def_psbt.specs.Source.{MAX_SOURCE_SIZE}
use Rattle.ms_io.specs.Sides.{Rose, CallWith, Side}
use Rattle.ms_io.specs.Endings.{EndsOf}
use Rattle.def_descriptor_answer.specs.declared.status.Status.{Status}
use Rattle.def_descriptor_answer.specs.declared.status.Status.TheVariants as status
use Rattle.def_descriptor_answer.specs.Words.{command_of}
use Rattle.def_descriptor_answer.specs.Answer.{Answer}
use Rattle.def_descriptor_answer.specs.Laws.{IsUpdate}

-- the words of a call, what it did to the source and to the sink, and its status
abbrev pub Call : Type 0
Call = CallWith Status

-- ---- how it ends

-- the words ask something
abbrev pub AsksSomething : (words : List Bytes) → Type 0
AsksSomething words = command_of words ≢ None

-- they ask for a PSBT with what a descriptor says
abbrev pub AsksUpdate : (words : List Bytes) → Type 0
AsksUpdate words = IsUpdate (command_of words)

-- with the answer's report written whole, with a prefix of it where the sink failed, or without one: the source failed, and the words
-- ask for an update, or memory was wanting, and the words ask something
abbrev pub Ends : Call → Type 0
Ends = EndsOf Answer status.ReadFault status.WriteFault status.Memory AsksUpdate AsksSomething

-- ---- which status comes

-- memory was wanting, or a fault came, which was counted
abbrev pub IsFault : Status → (source sink : Side) → Type 0
IsFault status.Done source sink = ⊥
IsFault status.Usage source sink = ⊥
IsFault status.Refused source sink = ⊥
IsFault status.PsbtRefused source sink = ⊥
IsFault status.Unfit source sink = ⊥
IsFault status.NoInput source sink = ⊥
IsFault status.ReadFault source sink = Rose source.before source.now
IsFault status.WriteFault source sink = Rose sink.before sink.now
IsFault status.Memory source sink = ⊤

-- with this status, unless memory was wanting or a fault came
abbrev pub EndsAs : Status → Call → Type 0
EndsAs wanted call = (call.status ≡ wanted) ⊎ IsFault call.status call.source call.sink

-- words that ask nothing are refused, whatever memory there is
abbrev pub EndsAsUsage : Call → Type 0
EndsAsUsage call =
    command_of call.words ≡ None →
    (call.status ≡ status.Usage) ⊎ ((call.status ≡ status.WriteFault) × Rose call.sink.before call.sink.now)

-- the call ends with the answer's status: of words that ask for no update whatever the source holds, and of others where it tells
-- what it holds
abbrev pub EndsAsAnswered : Call → Type 0
EndsAsAnswered call =
    (bytes : Bytes) (s : Status) (report : Bytes) →
    (AsksUpdate call.words → ⊥) ⊎ (call.source.old ≡ Some bytes) →
    Answer call.words bytes s report → EndsAs s call

-- ---- what is read

-- the source tells bytes that are not too many
abbrev pub TellsShortSource : Option Bytes → Type 0
TellsShortSource None = ⊥
TellsShortSource (Some bytes) = length bytes ≤ MAX_SOURCE_SIZE

-- the source was read to its end for a PSBT that was written, and for one that is refused unless it is too long
abbrev pub IsReadFor : Status → (source : Side) → Type 0
IsReadFor status.Done source = IsAtEnd source.new
IsReadFor status.Usage source = ⊤
IsReadFor status.Refused source = ⊤
IsReadFor status.PsbtRefused source = TellsShortSource source.old → IsAtEnd source.new
IsReadFor status.Unfit source = ⊤
IsReadFor status.NoInput source = IsAtEnd source.new
IsReadFor status.ReadFault source = ⊤
IsReadFor status.WriteFault source = ⊤
IsReadFor status.Memory source = ⊤
