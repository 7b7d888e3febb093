-- Three times the number of nodes, and one or two more for a tree that is taken apart.
use Rattle.std.proofs.Common.{◌≡◌, ◌+◌, ◌*◌, ◌≤◌, length, drop}
use Rattle.def_tree.specs.Size.{nodes, nodes_of}
use Rattle.ms_audit_laws.specs.Walk.{walk_all}
use Rattle.ms_audit.specs.Scaffolding.Walking.{below, added}
use Rattle.ms_interp.specs.Answering.{given_by}
use Rattle.ms_tree.specs.Shape.{shape, shapes}
use Rattle.ms_audit.proofs.spend.Spend.+walk.Given as goal

abbrev pub decreases-walk : goal.decreases-walk
decreases-walk g l = 3 * nodes (shape l.tree.now)

abbrev pub decreases-and_or : goal.decreases-and_or
decreases-and_or g l = 3 * nodes (shape l.x.now) + 3 * nodes (shape l.y.now) + 3 * nodes (shape l.z.now) + 1

abbrev pub decreases-two : goal.decreases-two
decreases-two g l = 3 * nodes (shape l.x.now) + 3 * nodes (shape l.z.now) + 1

abbrev pub decreases-or_i : goal.decreases-or_i
decreases-or_i g l = 3 * nodes (shape l.x.now) + 3 * nodes (shape l.z.now) + 1

abbrev pub decreases-thresh : goal.decreases-thresh
decreases-thresh g l = 3 * nodes_of (shapes l.children.now) + 2

abbrev pub decreases-count : goal.decreases-count
decreases-count g l = 3 * nodes_of (shapes l.children.now) + 1

abbrev pub decreases-wrap : goal.decreases-wrap
decreases-wrap g l = 3 * nodes (shape l.x.now) + 1

abbrev pub invariant-count-loop-child : goal.invariant-count-loop-child
invariant-count-loop-child g l = record {
  count : l.count ≤ l.child-index;
  left : l.course.left ≤ length l.self.stack.now;
  next : l.course.next + nodes_of (shapes (drop l.child-index l.children)) ≡ l.fn.course.next + nodes_of (shapes l.children);
  found :
      added l.count l.course.steps.items (walk_all (given_by (g.C.SignatureChecker.checker l.self.sigs.now) l.self.locks.now) l.course.next (shapes (drop l.child-index l.children))
      (below l.self.stack.now l.course.left))
      ≡ added 0 l.fn.course.steps.items (walk_all (given_by (g.C.SignatureChecker.checker l.self.sigs.now) l.self.locks.now) l.fn.course.next (shapes l.children)
      (below l.self.stack.now l.fn.course.left));
}
