-- Answers that go to a sink, through a buffer or at once.
use Rattle.std.specs.Prelude.{◌⊎◌, List, ℕ, MatchResult, Result}
use Rattle.std.specs.Io.KnownBytes.{Appends}
use Rattle.ms_io.specs.Faults.{HasCause}
use Rattle.ms_io.specs.Moves.{AppendsPrefix}
use Rattle.ms_io.specs.Sides.{Side}
use Rattle.def_lines.specs.Question.{Line}
use Rattle.def_lines.specs.Answers.{AnswersOf, Answers, LacksMemory}
use Rattle.ms_lines.specs.Through.{PassesOrFails}

-- bytes of which this holds were written or are held, or a prefix of them was written where the sink failed
abbrev pub Puts : {E : Type 0} → (IsSo : List ℕ → Type 0) → (sink : Side) → (held rest : List ℕ) → Result Unit E → Type 0
Puts IsSo sink held rest result = (bytes : List ℕ) × IsSo bytes × PassesOrFails sink held rest bytes result

-- bytes of which this holds were written, or a prefix of them where the sink failed, whose count of faults rose
abbrev pub WritesSuch : {E : Type 0} → (IsSo : List ℕ → Type 0) → (sink : Side) → Result Unit E → Type 0
WritesSuch IsSo sink result =
    (bytes : List ℕ) × IsSo bytes
    × MatchResult result (λ _. Appends sink.old sink.new bytes) (λ _. AppendsPrefix sink.old sink.new bytes)
    × HasCause sink.before sink.now result

-- the answer to what a line asks, or in its place that memory was wanting
abbrev pub AnswersOrLacks : AnswersOf → Line → (answer : List ℕ) → Type 0
AnswersOrLacks IsAnswer line answer = Answers IsAnswer line answer ⊎ LacksMemory line answer
