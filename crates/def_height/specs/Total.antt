-- The running totals of a course.
use Rattle.std.specs.Prelude.{◌≡◌, ℕ, ℤ, pos, ◌+ℤ◌, ◌-ℤ◌, ◌≤ℤ◌, [], ◌∷◌, take}
use Rattle.def_height.specs.Course.{Course, down, up}

-- the running total after all steps, from 0 on
abbrev pub total : Course → ℤ
total [] = pos 0
total (up n ∷ rest) = pos n +ℤ total rest
total (down n ∷ rest) = total rest -ℤ pos n

-- r is the greatest running total of a course, its start, 0, included
pub record IsRise (course : Course) (r : ℕ) : Type 0 where
  pub is_reached : (n : ℕ) × (total (take n course) ≡ pos r)
  pub is_greatest : (n : ℕ) → total (take n course) ≤ℤ pos r
