-- Twice the number of nodes, and one more for the children of a tree.
use Rattle.std.proofs.Common.{◌≡◌, ◌+◌, ◌*◌, List, drop}
use Rattle.def_tree.specs.Size.{nodes, nodes_of}
use Rattle.def_sane.specs.Locks.{Kinds}
use Rattle.ms_tree.specs.Shape.{shape, shapes}
use Rattle.ms_mixing.specs.Scaffolding.Mixing.{kinds_from_each, together}
use Rattle.ms_types.specs.Scaffolding.Seen.{behind}
use Rattle.ms_mixing.proofs.mixing.+mix.Given as goal

abbrev pub decreases-kinds_from : goal.decreases-kinds_from
decreases-kinds_from l = 2 * nodes (shape l.tree.now)

abbrev pub decreases-together_from : goal.decreases-together_from
decreases-together_from l = 2 * nodes_of (shapes l.children.now) + 1

abbrev pub invariant-together_from-loop-child : goal.invariant-together_from-loop-child
invariant-together_from-loop-child l = record {
  each : List Kinds;
  together : l.together ≡ together each;
  behind : behind each (kinds_from_each l.next (shapes (drop l.child-index l.children))) ≡ kinds_from_each l.initial.next (shapes l.children);
  next : l.next + nodes_of (shapes (drop l.child-index l.children)) ≡ l.initial.next + nodes_of (shapes l.children);
}
