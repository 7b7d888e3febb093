-- Laws of the nodes of a tree.
use Rattle.std.specs.Prelude.{◌≡◌, [], ◌∷◌, ◌++◌, length}
use Rattle.def_tree.specs.Tree.{Tree}
use Rattle.def_tree.specs.Size.{nodes}
use Rattle.def_tree.specs.Nodes.{all_nodes, nodes_of_all}
use Rattle.def_tree.specs.Children.{children}

-- the list of nodes has as many as the tree
abbrev pub NodesAreAll : Type 0
NodesAreAll = (tree : Tree) → length (all_nodes tree) ≡ nodes tree

-- a root comes behind the nodes of its children, and these stand from left to right
abbrev pub RootIsLast : Type 0
RootIsLast = (tree : Tree) → all_nodes tree ≡ nodes_of_all (children tree) ++ tree ∷ []
