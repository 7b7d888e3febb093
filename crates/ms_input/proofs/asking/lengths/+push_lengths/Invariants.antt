-- Twice the number of nodes, and one more for several parts.
use Rattle.std.proofs.Common.{◌≡◌, ◌+◌, ◌*◌, ◌++◌, drop, map}
use Rattle.def_tree.specs.Size.{nodes, nodes_of}
use Rattle.def_sane.specs.Keys.{keys_of_all}
use Rattle.ms_tree.specs.Shape.{shape, shapes}
use Rattle.ms_input.specs.Scaffolding.Lengths.{entry_of}
use Rattle.ms_input.proofs.asking.lengths.+push_lengths.Given as goal

abbrev pub decreases-push_lengths : goal.decreases-push_lengths
decreases-push_lengths l = 2 * nodes (shape l.tree.now)

abbrev pub decreases-push_lengths_of_all : goal.decreases-push_lengths_of_all
decreases-push_lengths_of_all l = 2 * nodes_of (shapes l.children.now) + 1

abbrev pub invariant-push_lengths_of_all-loop-child : goal.invariant-push_lengths_of_all-loop-child
invariant-push_lengths_of_all-loop-child l =
    l.entries.items ++ map (entry_of l.assets) (keys_of_all (shapes (drop l.child-index l.children))) ≡
    l.initial.entries.items ++ map (entry_of l.assets) (keys_of_all (shapes l.children))
