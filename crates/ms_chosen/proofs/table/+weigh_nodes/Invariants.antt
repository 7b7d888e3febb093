-- Three times the number of nodes, and some more for a tree that is taken apart.
use Rattle.std.proofs.Common.{◌≡◌, ◌≤◌, ◌+◌, ◌*◌, map, take}
use Rattle.def_tree.specs.Size.{nodes, nodes_of}
use Rattle.def_tree.specs.Nodes.{nodes_of_all}
use Rattle.ms_tree.specs.Shape.{shape, shapes}
use Rattle.ms_chosen.specs.Scaffolding.Table.{Adds}
use Rattle.ms_chosen.specs.Scaffolding.Count.{AreFew, AreTold}
use Rattle.ms_chosen.proofs.table.+weigh_nodes.Given as goal

abbrev pub decreases-weigh_nodes : goal.decreases-weigh_nodes
decreases-weigh_nodes l = 3 * nodes (shape l.tree.now) + 2

abbrev pub decreases-weigh_root : goal.decreases-weigh_root
decreases-weigh_root l = 3 * nodes (shape l.tree.now) + 1

abbrev pub decreases-weigh_thresh : goal.decreases-weigh_thresh
decreases-weigh_thresh l = 3 * nodes_of (shapes l.children.now) + 3

abbrev pub invariant-weigh_thresh-loop-child : goal.invariant-weigh_thresh-loop-child
invariant-weigh_thresh-loop-child l = record {
  few : AreFew l.all l.slots;
  told : AreTold l.rule l.assets (map shape (take l.child-index l.children)) l.all l.slots;
  free : l.all.tally.free ≤ l.child-index;
  place : l.all.tally.place ≡ l.child-index;
  added : Adds l.rule l.assets (nodes_of_all (shapes (take l.child-index l.children))) l.fn.table.items l.table.items;
}
