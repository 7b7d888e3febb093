-- What is chosen by each rule.
use Rattle.std.specs.Prelude.{Bool, true, false, List, [], ◌∷◌, is_some, if◌then◌else◌, Option, None}
use Rattle.def_machine.specs.Stacks.{Stack}
use Rattle.def_tree.specs.Tree.{Tree, Trees, none, more}
use Rattle.def_assets.specs.Assets.{Assets}
use Rattle.def_choice.specs.Least.{least}
use Rattle.def_choice.specs.Cheapest.{Child, cheapest_of}
use Rattle.def_choice.specs.Dissatisfaction.{dissatisfaction}
use Rattle.def_choice.specs.Strict.{strict_of}
use Rattle.def_choice.specs.Free.{free}
use Rattle.ms_tree.specs.declared.tree.Leaf.{Leaf}
use Rattle.ms_tree.specs.declared.tree.Leaf.TheVariants as leaf
use Rattle.def_choice.specs.declared.choice.Choice.{Choice as Rule}
use Rattle.def_choice.specs.declared.choice.Choice.TheVariants.{Cheapest, Strict}

-- the satisfaction
abbrev pub stack_by : Rule → Assets → Tree → Option Stack
stack_by Cheapest assets t = cheapest_of assets t
stack_by Strict assets t = strict_of assets t

-- the satisfaction without a signature, where the rule asks for one
abbrev pub free_by : Rule → Assets → Tree → Option Stack
free_by Cheapest assets t = None
free_by Strict assets t = free assets t

-- of two options one that has a free stack, the former first; where neither has one, the lighter one
abbrev pub first_of : (former_free latter_free : Bool) → (former latter : Option Stack) → Option Stack
first_of former_free latter_free former latter =
    if former_free then former
    else if latter_free then latter
    else least (former ∷ latter ∷ [])

-- a child of a threshold. One that has a free stack isn't dissatisfied
abbrev pub child_by : Rule → Assets → Tree → Child
child_by rule assets t = record {
  sat = stack_by rule assets t;
  dsat = if is_some (free_by rule assets t) then None else dissatisfaction t;
}

abbrev pub children_by : Rule → Assets → Trees → List Child
children_by rule assets none = []
children_by rule assets (more x xs) = child_by rule assets x ∷ children_by rule assets xs

-- a child with its free stack
abbrev pub free_child_by : Rule → Assets → Tree → Child
free_child_by rule assets t = record { sat = free_by rule assets t; dsat = dissatisfaction t }

-- the leaf needs a signature
abbrev pub has_key : Leaf → Bool
has_key leaf.Zero = false
has_key leaf.One = false
has_key (leaf.PkK key) = true
has_key (leaf.PkH key) = true
has_key (leaf.Older n) = false
has_key (leaf.After n) = false
has_key (leaf.Hash value) = false
