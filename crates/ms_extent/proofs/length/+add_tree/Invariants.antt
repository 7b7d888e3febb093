-- Four times the number of nodes, and up to three more for a tree that is taken apart.
use Rattle.std.proofs.Common.{◌≡◌, ◌+◌, ◌*◌, drop}
use Rattle.def_emit.specs.Emit.{emit_added}
use Rattle.def_tree.specs.Size.{nodes, nodes_of}
use Rattle.ms_tree.specs.Shape.{shape, shapes}
use Rattle.ms_extent.specs.Extent.{extended_by}
use Rattle.ms_extent.proofs.length.+add_tree.Given as goal

abbrev pub decreases-add_tree : goal.decreases-add_tree
decreases-add_tree l = 4 * nodes (shape l.tree.now)

abbrev pub decreases-add_and_or : goal.decreases-add_and_or
decreases-add_and_or l = 4 * nodes (shape l.x.now) + 4 * nodes (shape l.y.now) + 4 * nodes (shape l.z.now) + 1

abbrev pub decreases-add_two : goal.decreases-add_two
decreases-add_two l = 4 * nodes (shape l.x.now) + 4 * nodes (shape l.z.now) + 1

abbrev pub decreases-add_thresh : goal.decreases-add_thresh
decreases-add_thresh l = 4 * nodes_of (shapes l.children.now) + 3

abbrev pub decreases-add_sum : goal.decreases-add_sum
decreases-add_sum l = 4 * nodes_of (shapes l.children.now) + 2

abbrev pub decreases-add_others : goal.decreases-add_others
decreases-add_others l = 4 * nodes_of (shapes l.children.now) + 1

abbrev pub decreases-add_wrap : goal.decreases-add_wrap
decreases-add_wrap l = 4 * nodes (shape l.x.now) + 1

abbrev pub invariant-add_others-loop-child : goal.invariant-add_others-loop-child
invariant-add_others-loop-child l =
    extended_by l.extent (emit_added (shapes (drop l.child-index l.children))) ≡ extended_by l.initial.extent (emit_added (shapes l.children))
