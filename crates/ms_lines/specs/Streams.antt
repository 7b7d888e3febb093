-- How a call ends that answers the lines of a source.
use Rattle.std.specs.Prelude.{◌⊎◌, ◌≤◌, length}
use Rattle.std.specs.Io.KnownBytes.{Appends, Consumes, IsAtEnd, Keeps}
use Rattle.def_script.specs.Bytes.{Bytes}
use Rattle.def_lines.specs.Lines.{cut}
use Rattle.def_lines.specs.Answers.{AnswersOf, AnswersEach, AnswersLines}
use Rattle.ms_io.specs.Sides.{Rose, LAST_COUNT}
use Rattle.ms_io.specs.Moves.{AppendsPrefix}
use Rattle.ms_io.specs.Sides.{Side}
use Rattle.ms_io.specs.Reads.{AreTold}
use Rattle.ms_io.specs.Reads.{IsUnread}
use Rattle.ms_lines.specs.declared.stream.Ending.{Ending}
use Rattle.ms_lines.specs.declared.stream.Ending.TheVariants as ending

-- the source was read to its end, and the answers to its lines were written
pub record AnswersAll (IsAnswer : AnswersOf) (source sink : Side) : Type 0 where
  pub bytes : Bytes
  pub told : AreTold source.old bytes
  pub end : IsAtEnd source.new
  pub answers : Bytes
  pub are : AnswersLines IsAnswer bytes answers
  pub written : Appends sink.old sink.new answers

-- the source failed, and its count of faults rose, or it had given 2^64 - 1 pieces: the answers to the lines that were whole
-- before were written, and nothing of the line behind them
pub record StopsReading (IsAnswer : AnswersOf) (source sink : Side) : Type 0 where
  pub front : Bytes
  pub read : Consumes source.old source.new front
  pub cause : Rose source.before source.now ⊎ (LAST_COUNT ≤ length front)
  pub answers : Bytes
  pub are : AnswersEach IsAnswer (cut front).ended answers
  pub written : Appends sink.old sink.new answers

-- the sink failed, and its count of faults rose: a prefix of the answers to the lines of what was read was written
pub record StopsWriting (IsAnswer : AnswersOf) (source sink : Side) : Type 0 where
  pub front : Bytes
  pub read : Consumes source.old source.new front
  pub cause : Rose sink.before sink.now
  pub answers : Bytes
  pub are : AnswersLines IsAnswer front answers
  pub written : AppendsPrefix sink.old sink.new answers

-- there was no memory to begin with: nothing was read, and nothing was written
abbrev pub CannotBegin : (source sink : Side) → Type 0
CannotBegin source sink = IsUnread source × Keeps sink.old sink.new

abbrev pub EndsLines : AnswersOf → Ending → (source sink : Side) → Type 0
EndsLines IsAnswer ending.Done source sink = AnswersAll IsAnswer source sink
EndsLines IsAnswer ending.ReadFault source sink = StopsReading IsAnswer source sink
EndsLines IsAnswer ending.WriteFault source sink = StopsWriting IsAnswer source sink
EndsLines IsAnswer ending.Memory source sink = CannotBegin source sink
