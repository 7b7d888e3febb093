-- One tree of a tree, which has a node of it.
use Rattle.std.specs.Prelude.{◌≡◌, ℕ, ◌<◌, ◌≤◌, slice_get}
use Rattle.def_tree.specs.InRange.{IsInRange}
use Rattle.def_tree.specs.Nodes.{all_nodes, nodes_of_all}
use Rattle.def_tree.specs.Size.{nodes, nodes_of}
use Rattle.def_tree.specs.Tree.{Tree, Trees}

-- a tree below the root, in which the node has another number
pub record IsBelow (tree : Tree) (number : ℕ) (child : Tree) (left : ℕ) : Type 0 where
  pub range : IsInRange child
  pub smaller : nodes child < nodes tree
  pub there : left < nodes child
  pub lower : left ≤ number
  pub same : slice_get (all_nodes tree) number ≡ slice_get (all_nodes child) left

-- one of trees side by side, in which it has
pub record IsAmong (trees : Trees) (number : ℕ) (child : Tree) (left : ℕ) : Type 0 where
  pub range : IsInRange child
  pub smaller : nodes child ≤ nodes_of trees
  pub there : left < nodes child
  pub lower : left ≤ number
  pub same : slice_get (nodes_of_all trees) number ≡ slice_get (all_nodes child) left
