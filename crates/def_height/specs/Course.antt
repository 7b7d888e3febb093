-- Courses: how many elements the main stack and the alternative stack hold together, as a Script runs (Bitcoin Core,
-- script/interpreter.cpp: after each instruction they hold at most MAX_STACK_SIZE, 1,000, together).
use Rattle.std.specs.Prelude.{ℕ, ◌+◌, ◌-◌, List, [], ◌∷◌}

-- so many elements more, or so many fewer
pub data Step : Type 0 where
  up : ℕ → Step
  down : ℕ → Step

-- the steps of a run, in their order
abbrev pub Course : Type 0
Course = List Step

-- the greatest running total: after a first step up it is so much more than that of the rest, and after a
-- first step down so much less, and no less than the start, 0
abbrev pub rise : Course → ℕ
rise [] = 0
rise (up n ∷ rest) = n + rise rest
rise (down n ∷ rest) = rise rest - n
