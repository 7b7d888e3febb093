-- What is counted of the children of a threshold.
use Rattle.std.specs.Prelude.{◌≡◌, ℕ, ◌*◌, ◌≤◌, ◌^◌, ⊤, List, [], ◌∷◌, ◌++◌, map, Option, Some, None}
use Rattle.def_tree.specs.Tree.{Tree}
use Rattle.def_assets.specs.Assets.{Assets}
use Rattle.def_choice.specs.Cheapest.{all_dissatisfied}
use Rattle.ms_tree.specs.Shape.{trees_of}
use Rattle.ms_choice.specs.declared.slot.Slot.{Slot}
use Rattle.def_choice.specs.declared.choice.Choice.{Choice as Rule}
use Rattle.ms_chosen.specs.declared.table.Children.{Children}
use Rattle.ms_chosen.specs.Scaffolding.Costs.{weight_of, costs_of}
use Rattle.ms_choice.specs.Kinds.{Counts}
use Rattle.ms_choice.specs.Tally.{Fits, Tells}
use Rattle.ms_choice.specs.declared.children.Number.TheVariants.{First}
use Rattle.ms_chosen.specs.Rule.{child_by, free_child_by}
use Rattle.ms_chosen.specs.declared.table.Weighed.{Weighed}
use Rattle.ms_chosen.specs.Scaffolding.Table.{IsWeighed}

-- the weight of so many children at most
abbrev pub IsBounded : (children : ℕ) → Option ℕ → Type 0
IsBounded children None = ⊤
IsBounded children (Some weight) = weight ≤ children * 2 ^ 32

-- all numbers are bounded by the number of children
pub record AreFew (c : Children) (slots : List Slot) : Type 0 where
  pub tally : Fits c.tally slots
  pub forced : c.free.forced ≤ c.tally.place
  pub stuck : c.free.stuck ≤ c.tally.place
  pub free : c.free.free ≤ c.tally.place
  pub dsat : IsBounded c.tally.place c.dsat

-- these children were counted in
pub record AreTold (rule : Rule) (assets : Assets) (ts : List Tree) (c : Children) (slots : List Slot) : Type 0 where
  pub tally : Tells First (costs_of (map (child_by rule assets) ts)) c.tally slots
  pub free : Counts (costs_of (map (free_child_by rule assets) ts)) c.free
  pub dsat : c.dsat ≡ weight_of (all_dissatisfied (trees_of ts))

-- a further child was counted in, of which this was weighed
abbrev pub CountsIn : (before : Children) → (slots : List Slot) → Weighed → (after : Children) → (new_slots : List Slot) → Type 0
CountsIn before slots child after new_slots =
    (rule : Rule) (assets : Assets) (ts : List Tree) (t : Tree) → AreTold rule assets ts before slots → IsWeighed rule assets t child →
    AreTold rule assets (ts ++ t ∷ []) after new_slots
