-- Four times the number of nodes, and one to three more on the way to the nodes below.
use Rattle.std.proofs.Common.{◌≡◌, ◌≤◌, ◌+◌, ◌*◌, take}
use Rattle.def_tree.specs.Size.{nodes, nodes_of}
use Rattle.ms_tree.specs.Shape.{shape, shapes}
use Rattle.ms_chosen.specs.Scaffolding.Costs.{costs_of}
use Rattle.ms_choice.specs.declared.children.Number.TheVariants.{First}
use Rattle.ms_choice.specs.Tally.{Fits, Tells}
use Rattle.ms_chosen.specs.Scaffolding.Children.{children_of}
use Rattle.ms_chosen.proofs.weigh.+weigh.Given as goal

abbrev pub decreases-weigh : goal.decreases-weigh
decreases-weigh l = 4 * nodes (shape l.tree.now) + 1

abbrev pub decreases-of_node : goal.decreases-of_node
decreases-of_node l = 4 * nodes (shape l.tree.now)

abbrev pub decreases-of_and_or : goal.decreases-of_and_or
decreases-of_and_or l = 4 * nodes (shape l.x.now) + 4 * nodes (shape l.y.now) + 4 * nodes (shape l.z.now) + 2

abbrev pub decreases-of_two : goal.decreases-of_two
decreases-of_two l = 4 * nodes (shape l.x.now) + 4 * nodes (shape l.z.now) + 2

abbrev pub decreases-of_thresh : goal.decreases-of_thresh
decreases-of_thresh l = 4 * nodes_of (shapes l.children.now) + 3

abbrev pub decreases-tally_of : goal.decreases-tally_of
decreases-tally_of l = 4 * nodes_of (shapes l.children.now) + 2

abbrev pub decreases-of_wrap : goal.decreases-of_wrap
decreases-of_wrap l = 4 * nodes (shape l.x.now) + 2

abbrev pub invariant-tally_of-loop-child : goal.invariant-tally_of-loop-child
invariant-tally_of-loop-child l = record {
  fits : Fits l.tally l.slots;
  told : Tells First (costs_of (children_of l.assets (take l.child-index l.children))) l.tally l.slots;
  free : l.tally.free ≤ l.child-index;
  place : l.tally.place ≡ l.child-index;
}
