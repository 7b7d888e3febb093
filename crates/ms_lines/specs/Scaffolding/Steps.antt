-- The steps of a turn and of the loop.
use Rattle.std.specs.Prelude.{◌≡◌, ℕ, ◌≤◌, ◌++◌, List, length, OnOk, Result}
use Rattle.std.specs.Io.KnownBytes.{Appends, Consumes}
use Rattle.def_script.specs.Bytes.{Bytes}
use Rattle.def_lines.specs.Lines.{cut}
use Rattle.def_lines.specs.Laws.{lines_before}
use Rattle.def_lines.specs.Answers.{AnswersOf, AnswersLine, AnswersEach}
use Rattle.ms_io.specs.Sides.{Side}
use Rattle.ms_lines.specs.Puts.{Puts}
use Rattle.ms_lines.specs.Through.{Passes}
use Rattle.ms_lines.specs.Turns.{Beginning, IsOf, Begins}

-- bytes of a line come behind those that came
abbrev pub GoesOn : (old new : Beginning) → (bytes : Bytes) → Type 0
GoesOn old new bytes = (begun : Bytes) → IsOf old begun → IsOf new (begun ++ bytes)

-- the answer to the line that ends with these bytes was put
abbrev pub EndsLine : {E : Type 0} → AnswersOf → Beginning → (bytes : Bytes) → (sink : Side) → (held rest : Bytes) → Result Unit E → Type 0
EndsLine IsAnswer start bytes sink held rest result =
    (begun : Bytes) → IsOf start begun → Puts (AnswersLine IsAnswer (begun ++ bytes)) sink held rest result

-- the answers to the lines that end in a piece were put
abbrev pub PutsTurn : {E : Type 0} → AnswersOf → (old new : Beginning) → (piece : Bytes) → (sink : Side) → (held rest : Bytes) → Result Unit E → Type 0
PutsTurn IsAnswer old new piece sink held rest result =
    (begun : Bytes) → Begins old begun →
    Puts (AnswersEach IsAnswer (cut (begun ++ piece)).ended) sink held rest result
    × OnOk result (Begins new (cut (begun ++ piece)).rest)

-- part way through a piece, of which these bytes are left
pub record TurnsSoFar (IsAnswer : AnswersOf) (begun piece : Bytes) (now : Beginning) (left : Bytes) (sink : Side) (held rest : Bytes) : Type 0 where
  pub ended : List Bytes
  pub line : Bytes
  pub begins : Begins now line
  pub whole : cut (begun ++ piece) ≡ lines_before ended (cut (line ++ left))
  pub answers : Bytes
  pub are : AnswersEach IsAnswer ended answers
  pub passed : Passes sink.old sink.new held rest answers
  pub later : sink.before ≤ sink.now

-- part way through a source, of which this front was read in at least so many pieces
pub record ReadsSoFar (IsAnswer : AnswersOf) (count : ℕ) (start : Beginning) (source sink : Side) : Type 0 where
  pub front : Bytes
  pub read : Consumes source.old source.new front
  pub long : count ≤ length front
  pub begins : Begins start (cut front).rest
  pub answers : Bytes
  pub are : AnswersEach IsAnswer (cut front).ended answers
  pub written : Appends sink.old sink.new answers
  pub source_later : source.before ≤ source.now
  pub sink_later : sink.before ≤ sink.now
