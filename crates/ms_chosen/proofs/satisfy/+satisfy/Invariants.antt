-- Five times the number of nodes, and some more for a tree that is taken apart.
use Rattle.std.proofs.Common.{◌+◌, ◌*◌, take, drop}
use Rattle.def_tree.specs.Size.{nodes, nodes_of}
use Rattle.def_tree.specs.Nodes.{nodes_of_all}
use Rattle.def_choice.specs.Cheapest.{all_dissatisfied}
use Rattle.ms_tree.specs.Shape.{shape, shapes}
use Rattle.def_choice.specs.declared.choice.Choice.{Choice as Rule}
use Rattle.ms_chosen.specs.Scaffolding.Pushed.{IsPushed}
use Rattle.ms_chosen.specs.Rule.{child_by}
use Rattle.ms_chosen.specs.Scaffolding.Table.{AreEntries}
use Rattle.ms_chosen.specs.Scaffolding.Way.{tree_of, nodes_of_part, nodes_of_way, nodes_of_ways}
use Rattle.ms_chosen.proofs.Taken.{FromOn}
use Rattle.ms_chosen.proofs.satisfy.+satisfy.Given as goal

abbrev pub decreases-satisfy : goal.decreases-satisfy
decreases-satisfy l = 5 * nodes (tree_of l.seen)

abbrev pub decreases-dissatisfy : goal.decreases-dissatisfy
decreases-dissatisfy l = 5 * nodes (tree_of l.seen)

abbrev pub decreases-push_satisfying : goal.decreases-push_satisfying
decreases-push_satisfying l = 5 * nodes_of_ways l.ways + 3

abbrev pub decreases-push_dissatisfying : goal.decreases-push_dissatisfying
decreases-push_dissatisfying l = 5 * nodes_of_ways l.ways + 3

abbrev pub decreases-push_way : goal.decreases-push_way
decreases-push_way l = 5 * nodes_of_way l.way + 2

abbrev pub decreases-push_part : goal.decreases-push_part
decreases-push_part l = 5 * nodes_of_part l.part + 1

abbrev pub decreases-push_children : goal.decreases-push_children
decreases-push_children l = 5 * nodes_of (shapes l.children.now) + 1

abbrev pub decreases-dissatisfy_all : goal.decreases-dissatisfy_all
decreases-dissatisfy_all l = 5 * nodes_of (shapes l.children.now) + 1

abbrev pub invariant-dissatisfy_all-loop-place : goal.invariant-dissatisfy_all-loop-place
invariant-dissatisfy_all-loop-place l = record {
  before :
      (rule : Rule) → AreEntries rule l.assets (nodes_of_all (shapes l.children)) l.fn.table →
      AreEntries rule l.assets (nodes_of_all (shapes (take l.place l.children))) l.before;
  pushed : IsPushed (all_dissatisfied (shapes (drop l.place l.children))) l.fn.stack l.stack;
}

abbrev pub invariant-push_children-loop-place : goal.invariant-push_children-loop-place
invariant-push_children-loop-place l = record {
  before :
      (rule : Rule) → AreEntries rule l.assets (nodes_of_all (shapes l.children)) l.fn.table →
      AreEntries rule l.assets (nodes_of_all (shapes (take l.place l.children))) l.before;
  pushed :
      (rule : Rule) → AreEntries rule l.assets (nodes_of_all (shapes l.children)) l.fn.table →
      FromOn (λ x. child_by rule l.assets (shape x)) l.choice.last l.place (drop l.place l.children) l.fn.stack l.stack;
}
