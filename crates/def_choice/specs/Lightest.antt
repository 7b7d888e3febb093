-- When a choice is right.
use Rattle.std.specs.Prelude.{◌≡◌, ◌≤◌, List, Option, Some}
use Rattle.def_script.specs.Bytes.{Bytes}
use Rattle.def_script.specs.Witness.{weight}

-- the choice is a stack of the set, no stack of the set weighs less, and it is none exactly where the set
-- has none
pub record IsLightest (P : List Bytes → Type 0) (choice : Option (List Bytes)) : Type 0 where
  pub is : (stack : List Bytes) → choice ≡ Some stack → P stack
  pub lightest : (other : List Bytes) → P other → (stack : List Bytes) × (choice ≡ Some stack) × (weight stack ≤ weight other)
