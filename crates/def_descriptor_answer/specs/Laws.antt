-- Laws of the definitions: words and a source have at most one answer.
use Rattle.std.specs.Prelude.{◌≡◌, ⊤, List, IsUtf8, Option, None, Some}
use Rattle.def_script.specs.Bytes.{Bytes}
use Rattle.def_descriptor_answer.specs.declared.status.Status.{Status}
use Rattle.def_descriptor_answer.specs.declared.status.Status.TheVariants as status
use Rattle.def_descriptor_answer.specs.Words.{Command, check, derive, update, command_of}
use Rattle.def_descriptor_answer.specs.Answer.{Answer}

-- the text of what is asked is UTF-8
abbrev pub HasUtf8 : Command → Type 0
HasUtf8 (check text) = IsUtf8 text
HasUtf8 (derive asked) = IsUtf8 asked.text
HasUtf8 (update text count) = IsUtf8 text

abbrev pub AskUtf8 : Option Command → Type 0
AskUtf8 None = ⊤
AskUtf8 (Some command) = HasUtf8 command

-- words and a source have at most one answer
abbrev pub OneAnswer : Type 0
OneAnswer =
    (words : List Bytes) (source : Bytes) (s t : Status) (p q : Bytes) → AskUtf8 (command_of words) →
    Answer words source s p → Answer words source t q → (s ≡ t) × (p ≡ q)

-- what the source holds counts for `update` alone
abbrev pub IsUpdate : Option Command → Type 0
IsUpdate None = ⊥
IsUpdate (Some (check text)) = ⊥
IsUpdate (Some (derive asked)) = ⊥
IsUpdate (Some (update text count)) = ⊤

abbrev pub OthersAnswerAlike : Type 0
OthersAnswerAlike =
    (words : List Bytes) (source other : Bytes) (s : Status) (p : Bytes) → (IsUpdate (command_of words) → ⊥) → Answer words source s p → Answer words other s p

-- the statuses that answers have; the others come of a fault and of want of memory alone
abbrev pub IsAnswered : Status → Type 0
IsAnswered status.Done = ⊤
IsAnswered status.Usage = ⊤
IsAnswered status.Refused = ⊤
IsAnswered status.PsbtRefused = ⊤
IsAnswered status.Unfit = ⊤
IsAnswered status.NoInput = ⊤
IsAnswered status.ReadFault = ⊥
IsAnswered status.WriteFault = ⊥
IsAnswered status.Memory = ⊥

abbrev pub AnswersHaveStatus : Type 0
AnswersHaveStatus = (words : List Bytes) (source : Bytes) (s : Status) (p : Bytes) → Answer words source s p → IsAnswered s
