-- What the functions that write a satisfaction push; the tops of stacks stand last.
use Rattle.std.specs.Prelude.{◌≡◌, ℕ, ◌++◌, List, Option, Some}
use Rattle.def_script.specs.Bytes.{Bytes}
use Rattle.def_tree.specs.Tree.{Key, Trees, multi}
use Rattle.def_tree.specs.Nodes.{nodes_of_all}
use Rattle.def_assets.specs.Assets.{Assets}
use Rattle.def_choice.specs.Cheapest.{cheapest_of, stack_of}
use Rattle.ms_choice.specs.Marks.{set_by}
use Rattle.ms_choice.specs.declared.choice.Choice.{Choice}
use Rattle.def_choice.specs.declared.choice.Choice.{Choice as Rule}
use Rattle.ms_chosen.specs.declared.table.Entry.{Entry}
use Rattle.ms_chosen.specs.Rule.{children_by}
use Rattle.ms_chosen.specs.Scaffolding.Costs.{costs_of}
use Rattle.ms_chosen.specs.Scaffolding.Choice.{chosen}
use Rattle.ms_chosen.specs.Scaffolding.Children.{children_of_keys, lengths_of_keys}
use Rattle.ms_chosen.specs.Scaffolding.Table.{AreEntries, IsFound}
use Rattle.ms_chosen.specs.Scaffolding.Pushed.{IsPushed}

-- the choice that was found among the children of a threshold, whose entries these are
abbrev pub PushesChoice : Assets → Trees → List Entry → Option Choice → (before after : List Bytes) → Type 0
PushesChoice assets ts table choice before after =
    (rule : Rule) (k : ℕ) → AreEntries rule assets (nodes_of_all ts) table → IsFound (costs_of (children_by rule assets ts)) (children_by rule assets ts) k choice →
    IsPushed (chosen (children_by rule assets ts) k) before after

-- the satisfaction of a `multi` by the choice that was found among its keys
abbrev pub PushesMulti : Assets → List Key → Option Choice → (before after : List Bytes) → Type 0
PushesMulti assets keys choice before after =
    (k : ℕ) → IsFound (lengths_of_keys assets keys) (children_of_keys assets keys) k choice → IsPushed (cheapest_of assets (multi k keys)) before after

-- the signatures of the keys that a choice takes
abbrev pub PushesSignatures : Assets → List Key → Choice → (before after : List Bytes) → Type 0
PushesSignatures assets keys choice before after =
    (signatures : List Bytes) → stack_of (children_of_keys assets keys) (set_by choice.last 0 (lengths_of_keys assets keys)) ≡ Some signatures → after ≡ before ++ signatures
