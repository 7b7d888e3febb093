-- The lightest choice of so many among the children of a threshold.
use Rattle.std.specs.Prelude.{◌≡◌, ℕ, ◌+◌, ◌<◌, ◌⊎◌, List, length, map, Option, Some}
use Rattle.def_machine.specs.Stacks.{Stack}
use Rattle.def_choice.specs.Sets.{sets}
use Rattle.def_choice.specs.Least.{least}
use Rattle.def_choice.specs.Cheapest.{Child, stack_of}
use Rattle.ms_choice.specs.declared.children.Costs.{Costs}
use Rattle.ms_choice.specs.declared.choice.Choice.{Choice}
use Rattle.ms_choice.specs.Marks.{set_by}
use Rattle.ms_choice.specs.Tally.{forced, stuck, free}
use Rattle.ms_chosen.specs.Scaffolding.Costs.{weight_of}

-- so many of the children satisfied and the others dissatisfied: the first of the lightest stacks
abbrev pub chosen : List Child → ℕ → Option Stack
chosen children count = least (map (stack_of children) (sets (length children) count))

-- so many of these children can't be satisfied and the others dissatisfied
abbrev pub CannotChoose : List Costs → ℕ → Type 0
CannotChoose cs count = (0 < stuck cs) ⊎ ((count < forced cs) ⊎ (forced cs + free cs < count))

-- the choice of so many of the children: its weight, and which children it satisfies, by the costs that it compared
pub record IsChoice (costs : List Costs) (children : List Child) (count : ℕ) (choice : Choice) : Type 0 where
  pub weight : weight_of (chosen children count) ≡ Some choice.weight
  pub set : chosen children count ≡ stack_of children (set_by choice.last 0 costs)
