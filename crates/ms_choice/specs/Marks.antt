-- A choice by a mark: of the free children those are satisfied that stand at or before it.
use Rattle.std.specs.Prelude.{ℕ, suc, ℤ, pos, ◌-ℤ◌, nat_le, Bool, true, false, ◌&&◌, ◌||◌, int_lt, List, [], ◌∷◌, Option, Some, None}
use Rattle.std.specs.Ordering.{int_eq}
use Rattle.ms_choice.specs.declared.slot.Slot.{Slot}
use Rattle.ms_choice.specs.declared.children.Costs.{Costs}
use Rattle.ms_choice.specs.declared.choice.Choice.{Choice}
use Rattle.ms_choice.specs.Choice.{Pick}

-- a free child stands at or before the last one that is satisfied, in the order of differences and places
abbrev pub is_within : (last : Option Slot) → (difference : ℤ) → (place : ℕ) → Bool
is_within None difference place = false
is_within (Some last) difference place =
    int_lt difference last.first || (int_eq difference last.first && nat_le place last.place)

-- a child is satisfied: it has to be, or it is free and stands there
abbrev pub takes : (last : Option Slot) → (place : ℕ) → (sat dsat : Option ℕ) → Bool
takes last place None d = false
takes last place (Some s) None = true
takes last place (Some s) (Some d) = is_within last (pos s -ℤ pos d) place

-- which children are satisfied, where the first one has this place
abbrev pub set_by : (last : Option Slot) → (place : ℕ) → List Costs → List Bool
set_by last place [] = []
set_by last place (c ∷ cs) = takes last place c.sat c.dsat ∷ set_by last (suc place) cs

-- the choice among these children
abbrev pub picked : List Costs → Option Choice → Option Pick
picked cs None = None
picked cs (Some choice) = Some (choice.weight, set_by choice.last 0 cs)
