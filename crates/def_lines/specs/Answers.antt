-- The answers to the lines of a source, in their order.
use Rattle.std.specs.Prelude.{◌≡◌, ◌⊎◌, ℕ, List, [], ◌∷◌, ◌++◌, Option, None}
use Rattle.def_script.specs.Bytes.{Bytes}
use Rattle.def_lines.specs.Lines.{lines}
use Rattle.def_lines.specs.Question.{Id, Line, asks, refused, line_of, id_told}
use Rattle.def_lines.specs.Answer.{answer_line, REFUSED, NO_MEMORY, fault_line}

-- which exit statuses and reports a program has for words and for what its source holds
abbrev pub AnswersOf : Type 1
AnswersOf = (words : List Bytes) → (source : Bytes) → (status : ℕ) → (report : Bytes) → Type 0

-- the program's answer to a question, or the refusal of a line that is none
abbrev pub Answers : AnswersOf → Line → (answer : Bytes) → Type 0
Answers IsAnswer (asks id words source) answer =
    (status : ℕ) × (report : Bytes) × IsAnswer words source status report × (answer ≡ answer_line id status report)
Answers IsAnswer (refused id fault) answer = answer ≡ answer_line id REFUSED (fault_line fault)

-- memory was wanting for a line, of which the id was read or not
abbrev pub LacksMemory : Line → (answer : Bytes) → Type 0
LacksMemory line answer = (id : Option Id) × ((id ≡ None) ⊎ (id ≡ id_told line)) × (answer ≡ answer_line id NO_MEMORY [])

-- the answer to a line's bytes, or in its place that memory was wanting
abbrev pub AnswersLine : AnswersOf → (line answer : Bytes) → Type 0
AnswersLine IsAnswer line answer = Answers IsAnswer (line_of line) answer ⊎ LacksMemory (line_of line) answer

-- the answers to lines, one after the other
unfoldable pub AnswersEach : AnswersOf → (lines : List Bytes) → (answers : Bytes) → Type 0
AnswersEach IsAnswer [] answers = answers ≡ []
AnswersEach IsAnswer (line ∷ lines) answers =
    (first rest : Bytes) × AnswersLine IsAnswer line first × AnswersEach IsAnswer lines rest × (answers ≡ first ++ rest)

-- the answers to the lines of what a source holds
abbrev pub AnswersLines : AnswersOf → (source answers : Bytes) → Type 0
AnswersLines IsAnswer source answers = AnswersEach IsAnswer (lines source) answers
