-- What contracts see of weights.
use Rattle.std.specs.Prelude.{◌≡◌, ℕ, ◌+◌, min, List, map, Option, Some, None}
use Rattle.std.specs.Option.{option_map}
use Rattle.def_machine.specs.Stacks.{Stack}
use Rattle.def_script.specs.Witness.{weight}
use Rattle.def_tree.specs.Tree.{Tree}
use Rattle.def_assets.specs.Assets.{Assets}
use Rattle.def_choice.specs.Cheapest.{Child, cheapest_of}
use Rattle.def_choice.specs.Dissatisfaction.{dissatisfaction}
use Rattle.ms_choice.specs.declared.children.Costs.{Costs}
use Rattle.ms_rows.specs.Reading.{Reader, by_letters, ways_in}
use Rattle.ms_rows.specs.declared.ways.Argument.{Argument}
use Rattle.ms_rows.specs.declared.ways.Row.{Row}

-- the weight of both together
abbrev pub sum_of : (below above : Option ℕ) → Option ℕ
sum_of None above = None
sum_of (Some below) None = None
sum_of (Some below) (Some above) = Some (below + above)

-- the lesser weight
abbrev pub lesser : (former latter : Option ℕ) → Option ℕ
lesser None latter = latter
lesser (Some former) None = Some former
lesser (Some former) (Some latter) = Some (min former latter)

-- what a stack weighs, where there is one
abbrev pub weight_of : Option Stack → Option ℕ
weight_of = option_map weight

-- what the stacks of children weigh
abbrev pub costs_of_child : Child → Costs
costs_of_child child = record { sat = weight_of child.sat; dsat = weight_of child.dsat }

abbrev pub costs_of : List Child → List Costs
costs_of = map costs_of_child

-- what ways weigh, by what the children weigh
abbrev pub weights : Reader Costs (Option ℕ)
weights = record {
  sat = λ costs. costs.sat;
  dsat = λ costs. costs.dsat;
  one = Some 2;
  empty = Some 1;
  never = None;
  alone = λ weight. weight;
  both = sum_of;
  either = lesser;
}

-- what the ways of a row weigh, where the arguments with its letters weigh so much
pub record IsOfRow (costs : Costs) (row : Row Argument) (x y z : Costs) : Type 0 where
  pub sat : costs.sat ≡ ways_in (by_letters weights x y z) row.sat
  pub dsat : costs.dsat ≡ ways_in (by_letters weights x y z) row.dsat

-- what the lightest satisfaction of a tree weighs, and its lightest dissatisfaction
pub record AreCosts (assets : Assets) (t : Tree) (costs : Costs) : Type 0 where
  pub sat : costs.sat ≡ weight_of (cheapest_of assets t)
  pub dsat : costs.dsat ≡ weight_of (dissatisfaction t)
