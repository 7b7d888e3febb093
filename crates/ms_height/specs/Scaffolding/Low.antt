-- Numbers that may be added.
use Rattle.std.specs.Prelude.{◌<◌, ◌^◌, ⊤, Option, Some, None}
use Rattle.def_height.specs.declared.Highest.{Highest}
use Rattle.ms_height.specs.declared.highest.Heights.{Heights}

-- each number is below 2^32
pub record IsLowHighest (m : Highest) : Type 0 where
  pub items : m.items < 2 ^ 32
  pub height : m.height < 2 ^ 32

abbrev pub IsLow : Option Highest → Type 0
IsLow None = ⊤
IsLow (Some m) = IsLowHighest m

pub record IsLowHeights (h : Heights) : Type 0 where
  pub sat : IsLow h.sat
  pub dsat : IsLow h.dsat

-- each number fits a slot
abbrev pub IsStorable : Option Highest → Type 0
IsStorable None = ⊤
IsStorable (Some m) = (m.items < 2 ^ 63) × (m.height < 2 ^ 63)
