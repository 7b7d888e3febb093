-- Twice the number of nodes, and one more for the children of a tree.
use Rattle.std.proofs.Common.{◌≡◌, ◌+◌, ◌*◌, List, drop, length}
use Rattle.def_tree.specs.Size.{nodes, nodes_of}
use Rattle.ms_tree.specs.Shape.{shape, shapes}
use Rattle.def_types.specs.System.{typed_each}
use Rattle.ms_types.specs.Scaffolding.Seen.{behind}
use Rattle.ms_types.proofs.system.+typed.Given as goal

abbrev pub decreases-typed : goal.decreases-typed
decreases-typed g l = 2 * nodes (shape l.tree.now)

abbrev pub decreases-typed_children : goal.decreases-typed_children
decreases-typed_children g l = 2 * nodes_of (shapes l.children.now) + 1

abbrev pub invariant-typed_children-loop-child : goal.invariant-typed_children-loop-child
invariant-typed_children-loop-child g l = record {
  types : List g.row.T.Denot;
  seen : l.seen ≡ g.T.TypeSystem.seen types;
  count : length types ≡ l.child-index;
  behind : behind types (typed_each g.T.TypeSystem.rows l.next (shapes (drop l.child-index l.children))) ≡ typed_each g.T.TypeSystem.rows l.initial.next (shapes l.children);
  next : l.next + nodes_of (shapes (drop l.child-index l.children)) ≡ l.initial.next + nodes_of (shapes l.children);
}
