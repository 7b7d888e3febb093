-- Twice the number of nodes, and one more for trees side by side.
use Rattle.std.proofs.Common.{◌≡◌, ◌+◌, ◌*◌, ◌++◌, drop}
use Rattle.std.specs.Prelude.{flat_map}
use Rattle.std.specs.String.{string_bytes}
use Rattle.def_tree.specs.Nodes.{nodes_of_all}
use Rattle.def_tree.specs.Size.{nodes, nodes_of}
use Rattle.def_outline.specs.Outline.{outlines}
use Rattle.def_answer.specs.Outline.{node_line}
use Rattle.ms_tree.specs.Shape.{shape, shapes}
use Rattle.ms_outline.specs.Scaffolding.Typed.{AreTypesOf}
use Rattle.ms_outline.proofs.outline.+push_tree.Given as goal

abbrev pub decreases-push_tree : goal.decreases-push_tree
decreases-push_tree l = 2 * nodes (shape l.tree.now)

abbrev pub decreases-push_trees : goal.decreases-push_trees
decreases-push_trees l = 2 * nodes_of (shapes l.trees.now) + 1

abbrev pub invariant-push_trees-loop-tree : goal.invariant-push_trees-loop-tree
invariant-push_trees-loop-tree l = record {
  left : l.next + nodes_of (shapes (drop l.tree-index l.trees)) ≡ l.first + nodes_of (shapes l.trees);
  types : AreTypesOf l.types.correctness.items l.types.malleability.items l.next (nodes_of_all (shapes (drop l.tree-index l.trees)));
  written : string_bytes l.report ++ flat_map (node_line l.offsets) (outlines l.next l.depth (shapes (drop l.tree-index l.trees)))
      ≡ string_bytes l.initial.report ++ flat_map (node_line l.offsets) (outlines l.first l.depth (shapes l.trees));
}
