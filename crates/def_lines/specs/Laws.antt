-- What follows of lines and their answers.
use Rattle.std.specs.Prelude.{◌≡◌, ◌↔◌, ◌⊎◌, ◌<◌, ◌^◌, ◌||◌, ◌==◌, ℕ, Bool, true, List, [], ◌∷◌, ◌++◌, codes, Option, None, Some, option_and_then, ⊤, All}
use Rattle.std.specs.List.{list_all}
use Rattle.serde_json.specs.Data.{Data}
use Rattle.serde_json.specs.Find.{get, as_number, as_str, as_u64}
use Rattle.def_script.specs.Bytes.{Bytes}
use Rattle.def_files.specs.Json.{reading, is_object}
use Rattle.def_lines.specs.Lines.{Cut, cut, lines, LF}
use Rattle.def_lines.specs.Question.{Id, Line, asks, refused, line_of, id_told, is_plain, told_id}
use Rattle.def_lines.specs.Answer.{answer_line, REFUSED, NO_MEMORY, fault_line}
use Rattle.def_lines.specs.Answers.{AnswersOf, AnswersLines}

-- lines, and then those of a cut
abbrev pub lines_before : List Bytes → Cut → Cut
lines_before ended c = record { ended = ended ++ c.ended; rest = c.rest }

-- what is cut bit by bit is cut as it is at once: what stands behind the last line feed goes before what comes
abbrev pub CutsOn : Type 0
CutsOn = (one two : Bytes) → cut (one ++ two) ≡ lines_before (cut one).ended (cut ((cut one).rest ++ two))

-- a line feed parts the lines before it from those behind it
abbrev pub LinesAlone : Type 0
LinesAlone = (one two : Bytes) → lines (one ++ LF ∷ two) ≡ lines (one ++ LF ∷ []) ++ lines two

-- so where one part ends with a line feed, the answers to two parts, one after the other, are those to both together
abbrev pub Alone : AnswersOf → Type 0
Alone IsAnswer =
    (one two answers : Bytes) →
    AnswersLines IsAnswer (one ++ LF ∷ two) answers
    ↔ ((first rest : Bytes) × AnswersLines IsAnswer (one ++ LF ∷ []) first × AnswersLines IsAnswer two rest × (answers ≡ first ++ rest))

-- ---- an answer is a line of JSON

-- a character of a report: one that JSON writes as it is, or a line feed
abbrev pub is_reported : ℕ → Bool
is_reported c = is_plain c || (c == LF)

-- a report has such characters alone, and its status 64 bits
abbrev pub IsReported : (status : ℕ) → (report : Bytes) → Type 0
IsReported status report = (status < 2 ^ 64) × (list_all is_reported report ≡ true)

-- all reports are so, whatever the words are and the source holds
abbrev pub ReportsPlainly : AnswersOf → Type 0
ReportsPlainly IsAnswer =
    (words : List Bytes) (source : Bytes) (status : ℕ) (report : Bytes) → IsAnswer words source status report → IsReported status report

-- a text in UTF-8 has no byte from f5 on (RFC 3629, section 1)
abbrev pub ABOVE_UTF8 : ℕ
ABOVE_UTF8 = 0xf5

-- all reports are so, to a source that has no such byte
abbrev pub ReportsTextsPlainly : AnswersOf → Type 0
ReportsTextsPlainly IsAnswer =
    (words : List Bytes) (source : Bytes) (status : ℕ) (report : Bytes) → All (λ byte. byte < ABOVE_UTF8) source →
    IsAnswer words source status report → IsReported status report

-- read as JSON a line is an object with this id, this status and this report
pub record TellsBack (line : Bytes) (id : Option Id) (status : ℕ) (report : Bytes) : Type 0 where
  pub value : Data
  pub read : reading line ≡ Some value
  pub object : is_object value ≡ true
  pub told : told_id (get (codes "id") value) ≡ Some id
  pub status_is : option_and_then as_u64 (option_and_then as_number (get (codes "status") value)) ≡ Some status
  pub report_is : option_and_then as_str (get (codes "report") value) ≡ Some report

-- what answers a line: its id, with a status and a report that the program has for its words and source; where it is no question, its id as far
-- as that was read, with the refusal
abbrev pub IsReply : AnswersOf → Line → (id : Option Id) → (status : ℕ) → (report : Bytes) → Type 0
IsReply IsAnswer (asks own words source) id status report = (id ≡ own) × IsAnswer words source status report
IsReply IsAnswer (refused own fault) id status report = (id ≡ own) × (status ≡ REFUSED) × (report ≡ fault_line fault)

-- what says in its place that memory was wanting: the line's id or none
abbrev pub IsLack : Line → (id : Option Id) → (status : ℕ) → (report : Bytes) → Type 0
IsLack line id status report = ((id ≡ None) ⊎ (id ≡ id_told line)) × (status ≡ NO_MEMORY) × (report ≡ [])

abbrev pub Replies : AnswersOf → (line : Bytes) → (id : Option Id) → (status : ℕ) → (report : Bytes) → Type 0
Replies IsAnswer line id status report = IsReply IsAnswer (line_of line) id status report ⊎ IsLack (line_of line) id status report

-- an answer without its line feed: the line that is written of what answers the line, and as JSON tells back the same id, status and report
pub record IsToldBy (IsAnswer : AnswersOf) (line answer : Bytes) : Type 0 where
  pub id : Option Id
  pub status : ℕ
  pub report : Bytes
  pub replies : Replies IsAnswer line id status report
  pub written : answer ++ LF ∷ [] ≡ answer_line id status report
  pub back : TellsBack answer id status report

-- one for each, in order
unfoldable pub AreToldBy : AnswersOf → (lines answers : List Bytes) → Type 0
AreToldBy IsAnswer [] [] = ⊤
AreToldBy IsAnswer [] (answer ∷ answers) = ⊥
AreToldBy IsAnswer (line ∷ lines) [] = ⊥
AreToldBy IsAnswer (line ∷ lines) (answer ∷ answers) = IsToldBy IsAnswer line answer × AreToldBy IsAnswer lines answers

-- there are as many lines of answers as lines, and each is a line of JSON, read as which it has the id, the status and the report of what answers
-- its line
abbrev pub One : AnswersOf → Type 0
One IsAnswer = (source answers : Bytes) → AnswersLines IsAnswer source answers → AreToldBy IsAnswer (lines source) (lines answers)

-- so whoever reads an answer's line reads what answers its line: one that tells another id, status or report answers it nowhere
abbrev pub ReadsReplies : AnswersOf → Type 0
ReadsReplies IsAnswer =
    (line answer : Bytes) (id : Option Id) (status : ℕ) (report : Bytes) →
    IsToldBy IsAnswer line answer → TellsBack answer id status report → Replies IsAnswer line id status report
