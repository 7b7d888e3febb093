-- How a call of `msat` ends.
use Rattle.std.specs.Prelude.{◌≡◌, ◌⊎◌, ◌≤◌, ⊤, List, length, Option, None, Some}
use Rattle.std.specs.Io.KnownBytes.{IsAtEnd}
use Rattle.def_script.specs.Bytes.{Bytes}
use Rattle.def_text.specs.Refusal.{MOST_BYTES}
use Rattle.ms_io.specs.Sides.{Rose, Side}
use Rattle.ms_io.specs.Endings.{HasAnswerOf, EndsOf}
use Rattle.msat_cli.specs.Calls.{Call, EndsAs}
use Rattle.def_answer.specs.declared.status.Status.{Status}
use Rattle.def_answer.specs.declared.status.Status.TheVariants as status
use Rattle.def_answer.specs.Answer.{Answer}
use Rattle.def_answer.specs.Lines.{MOST_FILE}
use Rattle.def_answer.specs.Sources.{ReadsSource}
use Rattle.def_answer.specs.Words.{Command, script, asm, outline, check, satisfy, run, gen, policy, plan, audit, trace, trace_text, decode, IsForm, HasNoForm}

-- ---- how it ends

-- the answer to the words and to the bytes that the source held
abbrev pub HasAnswer : (words : List Bytes) → (source : Side) → Status → (report : Bytes) → Type 0
HasAnswer = HasAnswerOf Answer

-- the TEXT of the command, where it has one, isn't too long
abbrev pub HasShortText : Command → Type 0
HasShortText (script rules text) = length text ≤ MOST_BYTES
HasShortText (asm rules text) = length text ≤ MOST_BYTES
HasShortText (outline rules text) = length text ≤ MOST_BYTES
HasShortText (check rules text) = length text ≤ MOST_BYTES
HasShortText (satisfy choice rules text) = length text ≤ MOST_BYTES
HasShortText run = ⊤
HasShortText (gen n) = ⊤
HasShortText (policy text) = length text ≤ MOST_BYTES
HasShortText (plan text) = length text ≤ MOST_BYTES
HasShortText (audit text) = length text ≤ MOST_BYTES
HasShortText trace = ⊤
HasShortText (trace_text text) = length text ≤ MOST_BYTES
HasShortText (decode digits keys) = ⊤

-- the words have a form, and their TEXT isn't too long
abbrev pub TakesMemory : (words : List Bytes) → Type 0
TakesMemory words = (command : Command) × IsForm words command × HasShortText command

-- with the answer's report written whole, with a prefix of it where the sink failed, or without one: the source failed, which the words
-- read, or memory was wanting
abbrev pub Ends : Call → Type 0
Ends = EndsOf Answer status.ReadFault status.WriteFault status.Memory ReadsSource TakesMemory

-- ---- which status comes

-- words without a form are refused, whatever memory there is
abbrev pub EndsAsUsage : Call → Type 0
EndsAsUsage call =
    HasNoForm call.words →
    (call.status ≡ status.Usage) ⊎ ((call.status ≡ status.WriteFault) × Rose call.sink.before call.sink.now)

-- the call ends with the answer's status: of words that don't read the source whatever it holds, and of others
-- where it tells what it holds
abbrev pub EndsAsAnswered : Call → Type 0
EndsAsAnswered call =
    (bytes : Bytes) (s : Status) (report : Bytes) →
    (¬ ReadsSource call.words) ⊎ (call.source.old ≡ Some bytes) →
    Answer call.words bytes s report → EndsAs s call

-- ---- what is read

-- the source tells a file that isn't too long
abbrev pub TellsShortFile : Option Bytes → Type 0
TellsShortFile None = ⊥
TellsShortFile (Some bytes) = length bytes ≤ MOST_FILE

-- the source was read to its end, for a refusal of the file unless it is too long
abbrev pub IsReadFor : Status → (source : Side) → Type 0
IsReadFor status.Done source = IsAtEnd source.new
IsReadFor status.Usage source = ⊤
IsReadFor status.TextRefused source = ⊤
IsReadFor status.FileRefused source = TellsShortFile source.old → IsAtEnd source.new
IsReadFor status.NoSatisfaction source = IsAtEnd source.new
IsReadFor status.ReadFault source = ⊤
IsReadFor status.WriteFault source = ⊤
IsReadFor status.Memory source = ⊤
IsReadFor status.ScriptRefused source = IsAtEnd source.new
IsReadFor status.NotAccepted source = IsAtEnd source.new
IsReadFor status.NoReading source = ⊤
