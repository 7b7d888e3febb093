-- Three times the number of nodes, and one or two more for a tree that is taken apart.
use Rattle.std.proofs.Common.{◌≡◌, ◌++◌, ◌+◌, ◌*◌, drop}
use Rattle.def_emit.specs.Emit.{emit_added}
use Rattle.def_tree.specs.Size.{nodes, nodes_of}
use Rattle.ms_tree.specs.Shape.{shape, shapes}
use Rattle.ms_emit.proofs.translation.+add_tree.Given as goal

abbrev pub decreases-add_tree : goal.decreases-add_tree
decreases-add_tree l = 3 * nodes (shape l.tree.now)

abbrev pub decreases-add_and_or : goal.decreases-add_and_or
decreases-add_and_or l = 3 * nodes (shape l.x.now) + 3 * nodes (shape l.y.now) + 3 * nodes (shape l.z.now) + 1

abbrev pub decreases-add_two : goal.decreases-add_two
decreases-add_two l = 3 * nodes (shape l.x.now) + 3 * nodes (shape l.z.now) + 1

abbrev pub decreases-add_thresh : goal.decreases-add_thresh
decreases-add_thresh l = 3 * nodes_of (shapes l.children.now) + 2

abbrev pub decreases-add_others : goal.decreases-add_others
decreases-add_others l = 3 * nodes_of (shapes l.children.now) + 1

abbrev pub decreases-add_wrap : goal.decreases-add_wrap
decreases-add_wrap l = 3 * nodes (shape l.x.now) + 1

abbrev pub invariant-add_others-loop-child : goal.invariant-add_others-loop-child
invariant-add_others-loop-child l =
    l.script ++ emit_added (shapes (drop l.child-index l.children)) ≡ l.initial.script ++ emit_added (shapes l.children)
