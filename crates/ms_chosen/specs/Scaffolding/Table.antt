-- What the table of a tree says: of each node, in the order of their numbers, what was weighed of it.
use Rattle.std.specs.Prelude.{◌≡◌, ℕ, ⊤, List, [], ◌∷◌, ◌++◌, is_some, Option, Some, None}
use Rattle.def_tree.specs.Tree.{Tree, just_0, just_1, pk_k, pk_h, older, after, hash, and_or, two, thresh, multi, wrap}
use Rattle.def_tree.specs.InRange.{IsInRange}
use Rattle.def_tree.specs.Size.{nodes}
use Rattle.def_assets.specs.Assets.{Assets}
use Rattle.def_tree.specs.Nodes.{all_nodes, nodes_of_all}
use Rattle.def_choice.specs.Cheapest.{Child}
use Rattle.def_choice.specs.Dissatisfaction.{dissatisfaction}
use Rattle.def_choice.specs.declared.choice.Choice.{Choice as Rule}
use Rattle.ms_chosen.specs.declared.table.Weighed.{Weighed}
use Rattle.ms_chosen.specs.declared.table.Entry.{Entry}
use Rattle.ms_choice.specs.declared.choice.Choice.{Choice}
use Rattle.ms_choice.specs.declared.children.Costs.{Costs}
use Rattle.ms_chosen.specs.Scaffolding.Costs.{weight_of, costs_of}
use Rattle.ms_choice.specs.Numbers.{IsLight}
use Rattle.ms_chosen.specs.Scaffolding.Choice.{chosen, IsChoice}
use Rattle.ms_chosen.specs.Scaffolding.Children.{children_of_keys, lengths_of_keys}
use Rattle.ms_chosen.specs.Rule.{stack_by, free_by, children_by}

-- the lightest choice of so many of the children by these costs, or that there is none
abbrev pub IsFound : List Costs → List Child → ℕ → Option Choice → Type 0
IsFound costs children k None = chosen children k ≡ None
IsFound costs children k (Some choice) = IsChoice costs children k choice

-- the choice among the children of a threshold, and among the keys of a `multi`
abbrev pub Chooses : Rule → Assets → Tree → Option Choice → Type 0
Chooses rule assets just_0 found = ⊤
Chooses rule assets just_1 found = ⊤
Chooses rule assets (pk_k key) found = ⊤
Chooses rule assets (pk_h key) found = ⊤
Chooses rule assets (older n) found = ⊤
Chooses rule assets (after n) found = ⊤
Chooses rule assets (hash kind value) found = ⊤
Chooses rule assets (and_or x y z) found = ⊤
Chooses rule assets (two kind x z) found = ⊤
Chooses rule assets (thresh k xs) found = IsFound (costs_of (children_by rule assets xs)) (children_by rule assets xs) k found
Chooses rule assets (multi k keys) found = IsFound (lengths_of_keys assets keys) (children_of_keys assets keys) k found
Chooses rule assets (wrap wrapper x) found = ⊤

-- what was weighed of a node
pub record IsWeighed (rule : Rule) (assets : Assets) (t : Tree) (w : Weighed) : Type 0 where
  pub sat : w.costs.sat ≡ weight_of (stack_by rule assets t)
  pub dsat : w.costs.dsat ≡ weight_of (dissatisfaction t)
  pub free : w.free ≡ is_some (free_by rule assets t)
  pub choice : Chooses rule assets t w.choice

-- its weights are small, and it tells how many nodes it and the trees below it have
pub record IsEntry (rule : Rule) (assets : Assets) (t : Tree) (entry : Entry) : Type 0 where
  pub weighed : IsWeighed rule assets t entry.weighed
  pub light : IsLight entry.weighed.costs
  pub nodes : entry.nodes ≡ nodes t

-- the entries of these nodes
abbrev pub AreEntries : Rule → Assets → List Tree → List Entry → Type 0
AreEntries rule assets [] [] = ⊤
AreEntries rule assets [] (entry ∷ entries) = ⊥
AreEntries rule assets (t ∷ ts) [] = ⊥
AreEntries rule assets (t ∷ ts) (entry ∷ entries) = IsEntry rule assets t entry × AreEntries rule assets ts entries

-- the nodes below the root
abbrev pub below : Tree → List Tree
below just_0 = []
below just_1 = []
below (pk_k key) = []
below (pk_h key) = []
below (older n) = []
below (after n) = []
below (hash kind value) = []
below (and_or x y z) = all_nodes x ++ all_nodes y ++ all_nodes z
below (two kind x z) = all_nodes x ++ all_nodes z
below (thresh k xs) = nodes_of_all xs
below (multi k keys) = []
below (wrap wrapper x) = all_nodes x

-- a tree in range, with its table
pub record IsTable (rule : Rule) (assets : Assets) (t : Tree) (table : List Entry) : Type 0 where
  pub in_range : IsInRange t
  pub entries : AreEntries rule assets (all_nodes t) table

-- entries of these nodes were added
pub record Adds (rule : Rule) (assets : Assets) (ts : List Tree) (old new : List Entry) : Type 0 where
  pub added : List Entry
  pub behind : new ≡ old ++ added
  pub entries : AreEntries rule assets ts added

-- entries that end with those of a tree
abbrev pub EndsWith : Tree → List Entry → Type 0
EndsWith t table =
    (rule : Rule) × (assets : Assets) × (ts : List Tree) × AreEntries rule assets (ts ++ all_nodes t) table

-- what was weighed of a tree, by each rule and assets by which these are the entries of these nodes
abbrev pub Weighs : List Tree → List Entry → Tree → Weighed → Type 0
Weighs ts table t w = (rule : Rule) (assets : Assets) → AreEntries rule assets ts table → IsWeighed rule assets t w
