-- Three times the number of nodes, and one or two more for a tree that is taken apart.
use Rattle.std.proofs.Common.{◌+◌, ◌*◌}
use Rattle.def_tree.specs.Size.{nodes, nodes_of}
use Rattle.ms_tree.specs.Shape.{shape, shapes}
use Rattle.ms_height.proofs.Keeping.{KeptUpto}
use Rattle.ms_height.proofs.heights.+heights.Given as goal

abbrev pub decreases-heights : goal.decreases-heights
decreases-heights l = 3 * nodes (shape l.tree.now)

abbrev pub decreases-of_and_or : goal.decreases-of_and_or
decreases-of_and_or l = 3 * nodes (shape l.x.now) + 3 * nodes (shape l.y.now) + 3 * nodes (shape l.z.now) + 1

abbrev pub decreases-of_two : goal.decreases-of_two
decreases-of_two l = 3 * nodes (shape l.x.now) + 3 * nodes (shape l.z.now) + 1

abbrev pub decreases-of_thresh : goal.decreases-of_thresh
decreases-of_thresh l = 3 * nodes_of (shapes l.children.now) + 2

abbrev pub decreases-keep_children : goal.decreases-keep_children
decreases-keep_children l = 3 * nodes_of (shapes l.children.now) + 1

abbrev pub decreases-of_wrap : goal.decreases-of_wrap
decreases-of_wrap l = 3 * nodes (shape l.x.now) + 1

abbrev pub invariant-keep_children-loop-index : goal.invariant-keep_children-loop-index
invariant-keep_children-loop-index l = record { kept : KeptUpto l.children l.index l.sats l.dsats }
