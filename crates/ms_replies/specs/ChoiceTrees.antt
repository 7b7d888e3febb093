-- A tree of which a satisfaction is chosen, as contracts see it.
use Rattle.std.specs.Prelude.{List, Option}
use Rattle.def_script.specs.Bytes.{Bytes}
use Rattle.def_tree.specs.Tree.{Tree}
use Rattle.def_assets.specs.Assets.{Assets}
use Rattle.def_choice.specs.Cheapest.{cheapest}
use Rattle.def_choice.specs.Strict.{strict}
use Rattle.ms_sane.specs.declared.passed.ValidTree.{ValidTree}
use Rattle.ms_tree.specs.Shape.{shape}
use Rattle.ms_replies.specs.declared.choice_tree.ChoiceTree.{ChoiceTree}
use Rattle.ms_replies.specs.declared.choice_tree.ChoiceTree.TheVariants as choice

-- as a valid one
abbrev pub valid_in : ChoiceTree → ValidTree
valid_in (choice.Strict sane) = sane.valid
valid_in (choice.Cheapest valid) = valid

-- as a tree of the definitions
abbrev pub tree_in : ChoiceTree → Tree
tree_in c = shape (valid_in c).tree

-- the satisfaction that is chosen
abbrev pub chosen_in : ChoiceTree → Tree → Assets → Option (List Bytes)
chosen_in (choice.Strict sane) = strict
chosen_in (choice.Cheapest valid) = cheapest
