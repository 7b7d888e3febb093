-- What the calls over a signature and over a key give: their numbers, and what a buffer holds after a point that is there or not.
use Rattle.std.specs.Prelude.{ℕ, Option, Some, None}
use Rattle.def_script.specs.Bytes.{Bytes}
use Rattle.def_curve.specs.declared.Judgement.{Judgement}
use Rattle.def_curve.specs.declared.Judgement.TheVariants.{Bad, High, Good}
use Rattle.ms_calls.specs.Buffers.{written_over}

-- of a judgement: MSAT_BAD, MSAT_GOOD and MSAT_HIGH of include/msat.h
abbrev pub code_of : Judgement → ℕ
code_of Bad = 0
code_of Good = 1
code_of High = 2

-- of a key, whose point it may have: MSAT_DONE and MSAT_NO_POINT of include/msat.h
abbrev pub point_code : (point : Option Bytes) → ℕ
point_code None = 12
point_code (Some bytes) = 0

-- how many bytes a point has (SEC 1, 2.3.3)
abbrev pub POINT_SIZE : ℕ
POINT_SIZE = 65

-- the point's bytes lie over the buffer's beginning as far as there is room; where there is none, the buffer is as it was
abbrev pub point_after : (buffer : Bytes) → (point : Option Bytes) → Bytes
point_after buffer None = buffer
point_after buffer (Some bytes) = written_over buffer bytes

abbrev pub point_needed_after : (before : ℕ) → (point : Option Bytes) → ℕ
point_needed_after before None = before
point_needed_after before (Some bytes) = POINT_SIZE
