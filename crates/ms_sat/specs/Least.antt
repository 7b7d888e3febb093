-- What it means that a weight is the least one.
use Rattle.std.specs.Prelude.{◌≡◌, ◌↔◌, ℕ, ◌≤◌, List, Option, Some, None}
use Rattle.def_script.specs.Bytes.{Bytes}
use Rattle.def_script.specs.Witness.{weight}

-- the weight is that of a stack of the set, no stack of the set weighs less, and there is none exactly where
-- the set has no stack
pub record IsLeastWeight (P : List Bytes → Type 0) (found : Option ℕ) : Type 0 where
  pub attained : (n : ℕ) → found ≡ Some n → (stack : List Bytes) × P stack × (weight stack ≡ n)
  pub least : (stack : List Bytes) → P stack → (n : ℕ) × (found ≡ Some n) × (n ≤ weight stack)
  pub none : (found ≡ None) ↔ ((stack : List Bytes) → P stack → ⊥)
