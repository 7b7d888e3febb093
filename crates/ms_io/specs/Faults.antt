-- Counts of faults, which stop at the last value of their counter.
use Rattle.std.specs.Prelude.{ℕ, ◌+◌, ◌≤◌, min, OnErr, Result}
use Rattle.ms_io.specs.Sides.{LAST_COUNT, Rose}

-- one more, up to that value
abbrev pub next_count : ℕ → ℕ
next_count n = min (n + 1) LAST_COUNT

-- a count never falls, and a fault comes only where it rose
pub record HasCause {T E : Type 0} (before now : ℕ) (result : Result T E) : Type 0 where
  pub later : before ≤ now
  pub failed : OnErr result (Rose before now)
