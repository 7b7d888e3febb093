-- The beginning of a line, as contracts see it.
use Rattle.std.specs.Prelude.{◌≤◌, length}
use Rattle.def_script.specs.Bytes.{Bytes}
use Rattle.def_lines.specs.Question.{MOST_LINE}
use Rattle.ms_lines.specs.declared.turns.Keeping.{Keeping}
use Rattle.ms_lines.specs.declared.turns.Keeping.TheVariants as keeping
use Rattle.ms_lines.specs.declared.turns.Start.TheInside.{Inside}
use Rattle.ms_lines.specs.Turns.{Beginning, kept, too_long, lost}

abbrev pub beginning : Keeping → (bytes : Bytes) → Beginning
beginning keeping.Whole bytes = kept bytes
beginning keeping.TooLong bytes = too_long
beginning keeping.Lost bytes = lost

abbrev pub start_seen : Inside → Beginning
start_seen s = beginning s.keeping s.bytes.items

-- no more bytes are kept than a line may have
abbrev pub IsShort : Inside → Type 0
IsShort s = length s.bytes.items ≤ MOST_LINE
