-- How a call for the word `lines` ends, whichever program it is.
use Rattle.std.specs.Prelude.{◌≡◌, ℕ}
use Rattle.def_lines.specs.Answers.{AnswersOf}
use Rattle.ms_io.specs.Endings.{AnswersWith}
use Rattle.ms_io.specs.Sides.{Side}
use Rattle.ms_lines.specs.declared.stream.Ending.{Ending}
use Rattle.ms_lines.specs.Streams.{EndsLines}

-- a program's answers by the exit codes of its statuses
abbrev pub answers_by_code : {S : Type 0} → AnswersWith S → (code_of : S → ℕ) → AnswersOf
answers_by_code {S} IsAnswer code_of words source code report = (status : S) × IsAnswer words source status report × (code ≡ code_of status)

-- with the program's answers to the lines of the source, or with those that were written before a fault
abbrev pub EndsAsLines : {S : Type 0} → (status_of : Ending → S) → AnswersOf → (source sink : Side) → S → Type 0
EndsAsLines status_of IsAnswer source sink status = (e : Ending) × (status ≡ status_of e) × EndsLines IsAnswer e source sink
