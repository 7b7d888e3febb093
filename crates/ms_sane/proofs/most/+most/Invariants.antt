-- Three times the number of nodes, and one more for a tree that is taken apart.
use Rattle.std.proofs.Common.{◌≡◌, ◌≤◌, ◌+◌, ◌*◌, take}
use Rattle.def_tree.specs.Size.{nodes, nodes_of}
use Rattle.ms_tree.specs.Shape.{shape, shapes}
use Rattle.ms_choice.specs.declared.children.Number.{Number}
use Rattle.ms_choice.specs.Tally.{Fits, Tells}
use Rattle.ms_sane.specs.Scaffolding.Most.{children_in}
use Rattle.ms_sane.proofs.most.+most.Given as goal

abbrev pub decreases-most : goal.decreases-most
decreases-most l = 3 * nodes (shape l.tree.now)

abbrev pub decreases-of_and_or : goal.decreases-of_and_or
decreases-of_and_or l = 3 * nodes (shape l.x.now) + 3 * nodes (shape l.y.now) + 3 * nodes (shape l.z.now) + 1

abbrev pub decreases-of_two : goal.decreases-of_two
decreases-of_two l = 3 * nodes (shape l.x.now) + 3 * nodes (shape l.z.now) + 1

abbrev pub decreases-of_thresh : goal.decreases-of_thresh
decreases-of_thresh l = 3 * nodes_of (shapes l.children.now) + 1

abbrev pub decreases-of_wrap : goal.decreases-of_wrap
decreases-of_wrap l = 3 * nodes (shape l.x.now) + 1

abbrev pub invariant-of_thresh-loop-child : goal.invariant-of_thresh-loop-child
invariant-of_thresh-loop-child l = record {
  fits : Fits l.tally l.slots;
  told : (n : Number) → Tells n (children_in n (take l.child-index l.children)) l.tally l.slots;
  free : l.tally.free ≤ l.child-index;
  place : l.tally.place ≡ l.child-index;
}
