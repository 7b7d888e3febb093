-- Twice the number of nodes, and one more for the children of a tree.
use Rattle.std.proofs.Common.{◌≡◌, ◌+◌, ◌*◌, ◌++◌, List, drop, map}
use Rattle.std.specs.Prelude.{Option}
use Rattle.def_tree.specs.Nodes.{nodes_of_all}
use Rattle.def_tree.specs.Size.{nodes, nodes_of}
use Rattle.ms_tree.specs.Shape.{shape, shapes}
use Rattle.ms_types.specs.Scaffolding.Told.{joined, tree_told, trees_told, seen_told, Counts}
use Rattle.ms_types.proofs.nodes.+add.Given as goal

abbrev pub decreases-add_tree : goal.decreases-add_tree
decreases-add_tree g l = 2 * nodes (shape l.tree.now)

abbrev pub decreases-add_children : goal.decreases-add_children
decreases-add_children g l = 2 * nodes_of (shapes l.children.now) + 1

abbrev pub invariant-add_children-loop-child : goal.invariant-add_children-loop-child
invariant-add_children-loop-child g l = record {
  types : Option (List g.row.T.Denot);
  seen : l.seen ≡ seen_told g.T.TypeSystem.seen types;
  count : Counts types l.child-index;
  told : joined types (trees_told g.T.TypeSystem.rows (shapes (drop l.child-index l.children))) ≡ trees_told g.T.TypeSystem.rows (shapes l.children);
  added : l.types.items ++ map (tree_told g.T.TypeSystem.rows) (nodes_of_all (shapes (drop l.child-index l.children)))
      ≡ l.initial.types.items ++ map (tree_told g.T.TypeSystem.rows) (nodes_of_all (shapes l.children));
}
