-- Four times the number of nodes, and up to three more for a tree that is taken apart.
use Rattle.std.proofs.Common.{◌≡◌, ◌+◌, ◌*◌, drop}
use Rattle.def_trace.specs.Writers.{attributed_added}
use Rattle.def_tree.specs.Size.{nodes, nodes_of}
use Rattle.ms_tree.specs.Shape.{shape, shapes}
use Rattle.ms_writers.specs.Scaffolding.Wrote.{wrote_all}
use Rattle.ms_writers.proofs.writing.+add_tree.Given as goal

abbrev pub decreases-add_tree : goal.decreases-add_tree
decreases-add_tree l = 4 * nodes (shape l.tree.now)

abbrev pub decreases-add_and_or : goal.decreases-add_and_or
decreases-add_and_or l = 4 * nodes (shape l.x.now) + 4 * nodes (shape l.y.now) + 4 * nodes (shape l.z.now) + 1

abbrev pub decreases-add_two : goal.decreases-add_two
decreases-add_two l = 4 * nodes (shape l.x.now) + 4 * nodes (shape l.y.now) + 1

abbrev pub decreases-add_thresh : goal.decreases-add_thresh
decreases-add_thresh l = 4 * nodes_of (shapes l.children.now) + 3

abbrev pub decreases-add_sum : goal.decreases-add_sum
decreases-add_sum l = 4 * nodes_of (shapes l.children.now) + 2

abbrev pub decreases-add_others : goal.decreases-add_others
decreases-add_others l = 4 * nodes_of (shapes l.children.now) + 1

abbrev pub decreases-add_wrap : goal.decreases-add_wrap
decreases-add_wrap l = 4 * nodes (shape l.x.now) + 1

abbrev pub invariant-add_others-loop-child : goal.invariant-add_others-loop-child
invariant-add_others-loop-child l = record {
  left : l.next + nodes_of (shapes (drop l.child-index l.children)) ≡ l.own;
  written : wrote_all l.written (attributed_added l.next l.own (shapes (drop l.child-index l.children)))
      ≡ wrote_all l.initial.written (attributed_added l.initial.next l.own (shapes l.children));
}
