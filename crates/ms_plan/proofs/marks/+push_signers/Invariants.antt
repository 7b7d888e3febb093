-- Twice the number of nodes, and one more for several parts.
use Rattle.std.proofs.Common.{◌≡◌, ◌+◌, ◌*◌, ◌++◌, drop, filter}
use Rattle.def_tree.specs.Size.{nodes, nodes_of}
use Rattle.def_sane.specs.Keys.{keys_of_all}
use Rattle.ms_tree.specs.Shape.{shape, shapes}
use Rattle.ms_plan.specs.Scaffolding.Marks.{signs}
use Rattle.ms_plan.proofs.marks.+push_signers.Given as goal

abbrev pub decreases-push_signers : goal.decreases-push_signers
decreases-push_signers l = 2 * nodes (shape l.tree.now)

abbrev pub decreases-push_signers_of_all : goal.decreases-push_signers_of_all
decreases-push_signers_of_all l = 2 * nodes_of (shapes l.children.now) + 1

abbrev pub invariant-push_signers_of_all-loop-child : goal.invariant-push_signers_of_all-loop-child
invariant-push_signers_of_all-loop-child l =
    l.keys.items ++ filter (signs l.assets l.signatures) (keys_of_all (shapes (drop l.child-index l.children))) ≡
    l.initial.keys.items ++ filter (signs l.assets l.signatures) (keys_of_all (shapes l.children))
