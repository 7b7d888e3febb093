-- The greatest sums of some numbers, as they come one by one.
use Rattle.std.specs.Prelude.{◌≡◌, ℕ, ◌+◌, ◌-◌, ◌<◌, ◌≤◌, ◌^◌, ◌⊎◌, min, List, [], ◌∷◌, length, get_or, All, cond, nat_eq}
use Rattle.def_tree.specs.InRange.{MOST_MEASURE}
use Rattle.ms_choice.specs.declared.slot.Slot.{Slot}
use Rattle.ms_height.specs.declared.sums.Top.{Top}
use Rattle.ms_height.specs.Scaffolding.Kept.{blank}

-- how many numbers are above a mark, and by how much together
abbrev pub above : (mark : ℕ) → List ℕ → ℕ
above mark [] = 0
above mark (x ∷ xs) = min 1 (x - mark) + above mark xs

abbrev pub excess : (mark : ℕ) → List ℕ → ℕ
excess mark [] = 0
excess mark (x ∷ xs) = (x - mark) + excess mark xs

-- how many reach it
abbrev pub reached : (mark : ℕ) → List ℕ → ℕ
reached mark [] = 0
reached mark (x ∷ xs) = (1 - (mark - x)) + reached mark xs

-- how many are at it
abbrev pub equal : (mark : ℕ) → List ℕ → ℕ
equal mark [] = 0
equal mark (x ∷ xs) = cond (nat_eq mark x) 1 0 + equal mark xs

-- each slot says how many of the numbers are its place
pub record IsCounted (slots : List Slot) (xs : List ℕ) : Type 0 where
  pub each : (v : ℕ) → v < length slots → (get_or slots v blank).place ≡ equal v xs
  pub inside : All (λ x. x < length slots) xs
  pub few : length xs ≤ MOST_MEASURE
  pub small : All (λ x. x < 2 ^ 32) xs

-- a mark over the numbers: it is 0, or as many of them as are wanted reach it
pub record IsRising (top : Top) (xs : List ℕ) : Type 0 where
  pub above : top.above ≡ above top.mark xs
  pub excess : top.excess ≡ excess top.mark xs
  pub many : (top.mark ≡ 0) ⊎ (top.count ≤ reached top.mark xs)

-- a mark over numbers that the slots count: besides, at most one fewer than `count` are above it
pub record IsTop (top : Top) (slots : List Slot) (count : ℕ) (xs : List ℕ) : Type 0 where
  pub counted : IsCounted slots xs
  pub rising : IsRising top xs
  pub few : top.above ≤ top.count - 1
  pub same : top.count ≡ count
