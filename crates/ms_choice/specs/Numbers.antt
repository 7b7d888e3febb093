-- The numbers of a child, and the differences that a slot holds.
use Rattle.std.specs.Prelude.{ℕ, ℤ, ◌<◌, ◌^◌, ⊤, Option, Some, None}
use Rattle.std.specs.Option.{option_map}
use borrow.Author.Differences.{up, down}
use Rattle.ms_choice.specs.declared.slot.Slot.{Slot}
use Rattle.ms_choice.specs.declared.children.Costs.{Costs}
use Rattle.ms_choice.specs.declared.children.Child.{Child}
use Rattle.ms_choice.specs.declared.children.Numbers.{Numbers}
use Rattle.ms_choice.specs.declared.children.Number.{Number}
use Rattle.ms_choice.specs.declared.children.Number.TheVariants.{First, Second, Third}

-- one of the numbers
abbrev pub number_in : Number → Numbers → ℕ
number_in First numbers = numbers.first
number_in Second numbers = numbers.second
number_in Third numbers = numbers.third

-- a child in one of the numbers
abbrev pub costs_in : Number → Child → Costs
costs_in n child = record { sat = option_map (number_in n) child.sat; dsat = option_map (number_in n) child.dsat }

-- the difference in it that a slot holds
abbrev pub difference : Number → Slot → ℤ
difference First slot = slot.first
difference Second slot = slot.second
difference Third slot = slot.third

-- between -2^32 and 2^32
abbrev pub IsSmall : ℤ → Type 0
IsSmall z = (up z < 2 ^ 32) × (down z < 2 ^ 32)

abbrev pub IsLightSlot : Slot → Type 0
IsLightSlot slot = (n : Number) → IsSmall (difference n slot)

-- each number is below 2^32
pub record IsLightNumbers (numbers : Numbers) : Type 0 where
  pub first : numbers.first < 2 ^ 32
  pub second : numbers.second < 2 ^ 32
  pub third : numbers.third < 2 ^ 32

abbrev pub IsLightEach : Option Numbers → Type 0
IsLightEach None = ⊤
IsLightEach (Some numbers) = IsLightNumbers numbers

pub record IsLightChild (child : Child) : Type 0 where
  pub sat : IsLightEach child.sat
  pub dsat : IsLightEach child.dsat

-- a weight below 2^32
abbrev pub IsLightOption : Option ℕ → Type 0
IsLightOption None = ⊤
IsLightOption (Some weight) = weight < 2 ^ 32

pub record IsLight (costs : Costs) : Type 0 where
  pub sat : IsLightOption costs.sat
  pub dsat : IsLightOption costs.dsat
