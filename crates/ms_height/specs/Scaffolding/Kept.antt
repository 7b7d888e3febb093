-- What the slots keep of the children of a threshold.
use Rattle.std.specs.Prelude.{ℕ, zero, suc, ◌<◌, ⊤, List, [], ◌∷◌, Option, Some, None, pos}
use Rattle.std.specs.Int.RustNames.{unsigned_abs}
use Rattle.def_tree.specs.Tree.{Trees, none, more}
use Rattle.def_height.specs.declared.Highest.{Highest}
use Rattle.ms_choice.specs.declared.slot.Slot.{Slot}
use Rattle.ms_height.specs.declared.highest.Heights.{Heights}
use Rattle.ms_height.specs.Scaffolding.Row.{highest_of}

-- nothing where the last number is 0
abbrev pub kept_by : (place items height : ℕ) → Option Highest
kept_by zero items height = None
kept_by (suc n) items height = Some (record { items = items; height = height })

abbrev pub kept_in : Slot → Option Highest
kept_in slot = kept_by slot.place (unsigned_abs slot.first) (unsigned_abs slot.second)

-- an empty slot
abbrev pub blank : Slot
blank = record { first = pos 0; second = pos 0; third = pos 0; place = 0 }

-- the children that are kept, one slot each of either
abbrev pub heights_in : (sats dsats : List Slot) → List Heights
heights_in [] dsats = []
heights_in (s ∷ ss) [] = []
heights_in (s ∷ ss) (d ∷ ds) = record { sat = kept_in s; dsat = kept_in d } ∷ heights_in ss ds

-- what children take
abbrev pub heights_of : Trees → List Heights
heights_of none = []
heights_of (more x xs) = highest_of x ∷ heights_of xs

-- as many slots as these have a place for a child's items
abbrev pub ItemsBelow : (slots : ℕ) → Option Highest → Type 0
ItemsBelow slots None = ⊤
ItemsBelow slots (Some m) = m.items < slots

pub record IsFitting (slots : ℕ) (child : Heights) : Type 0 where
  pub sat : ItemsBelow slots child.sat
  pub dsat : ItemsBelow slots child.dsat
