-- One turn of the loop: what is known of the beginning of a line, and what a piece of bytes adds to it.
use Rattle.std.specs.Prelude.{◌≡◌, ◌<◌, ◌≤◌, ◌++◌, [], length, OnOk, Result}
use Rattle.def_script.specs.Bytes.{Bytes}
use Rattle.def_lines.specs.Lines.{cut, last_line}
use Rattle.def_lines.specs.Question.{MOST_LINE}
use Rattle.def_lines.specs.Answers.{AnswersOf, AnswersEach}
use Rattle.ms_io.specs.Sides.{Side}
use Rattle.ms_lines.specs.Puts.{WritesSuch}

-- the beginning of a line: its bytes, that they are too many, or that memory was wanting for them
pub data Beginning : Type 0 where
  kept : (bytes : Bytes) → Beginning
  too_long : Beginning
  lost : Beginning

-- what it says of the bytes that came
abbrev pub IsOf : Beginning → (bytes : Bytes) → Type 0
IsOf (kept held) bytes = (held ≡ bytes) × (length bytes ≤ MOST_LINE)
IsOf too_long bytes = MOST_LINE < length bytes
IsOf lost bytes = 0 < length bytes

-- these bytes came since the last line feed
abbrev pub Begins : Beginning → (bytes : Bytes) → Type 0
Begins start bytes = IsOf start bytes × (cut bytes ≡ record { ended = []; rest = bytes })

-- the answers to exactly the lines that end in the piece were written, and the beginning of the next line is left
abbrev pub Turns : {E : Type 0} → AnswersOf → (old new : Beginning) → (piece : Bytes) → (sink : Side) → Result Unit E → Type 0
Turns IsAnswer old new piece sink result =
    (begun : Bytes) → Begins old begun →
    WritesSuch (AnswersEach IsAnswer (cut (begun ++ piece)).ended) sink result
    × OnOk result (Begins new (cut (begun ++ piece)).rest)

-- the answer to the line that began so was written, which no line feed ends, where it has a byte
abbrev pub Finishes : {E : Type 0} → AnswersOf → Beginning → (sink : Side) → Result Unit E → Type 0
Finishes IsAnswer start sink result =
    (begun : Bytes) → Begins start begun → WritesSuch (AnswersEach IsAnswer (last_line begun)) sink result
