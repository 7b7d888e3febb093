-- Twice the number of nodes, and one more for the children of a tree.
use Rattle.std.proofs.Common.{◌≡◌, ◌+◌, ◌*◌, drop}
use Rattle.def_tree.specs.Size.{nodes, nodes_of}
use Rattle.def_tree.specs.Tree.{none}
use Rattle.ms_tree.specs.Shape.{shape, shapes}
use Rattle.ms_tree.specs.Scaffolding.Size.{beside, size_of_trees}
use Rattle.ms_tree.proofs.+size.Given as goal

abbrev pub decreases-tree::Tree::size : goal.decreases-tree::Tree::size
decreases-tree::Tree::size l = 2 * nodes (shape l.self.now)

abbrev pub decreases-size::size_of_all : goal.decreases-size::size_of_all
decreases-size::size_of_all l = 2 * nodes_of (shapes l.children.now) + 1

abbrev pub invariant-size::size_of_all-loop-child : goal.invariant-size::size_of_all-loop-child
invariant-size::size_of_all-loop-child l = record {
  left : beside l.size (size_of_trees (shapes (drop l.child-index l.children))) ≡ size_of_trees (shapes l.children);
  fits : beside l.size (size_of_trees none) ≡ l.size;
}
