-- The node is one of the trees that are left.
use Rattle.std.proofs.Common.{◌≡◌, ◌<◌, ◌≤◌, drop, slice_get}
use Rattle.def_tree.specs.Nodes.{nodes_of_all}
use Rattle.def_tree.specs.Size.{nodes_of}
use Rattle.ms_tree.specs.Shape.{shapes}
use Rattle.ms_outline.proofs.node_at.among.Given as goal

abbrev pub invariant-loop-child : goal.invariant-loop-child
invariant-loop-child l = record {
  lower : l.left ≤ l.number;
  there : l.left < nodes_of (shapes (drop l.child-index l.children));
  same : slice_get (nodes_of_all (shapes l.children)) l.number ≡ slice_get (nodes_of_all (shapes (drop l.child-index l.children))) l.left;
}
