-- What is left makes the whole.
use Rattle.std.proofs.Common.{◌≡◌, ◌+◌, ◌++◌, drop}
use Rattle.def_tree.specs.Size.{nodes_of}
use Rattle.ms_tree.specs.Shape.{shapes}
use Rattle.ms_outline.specs.Scaffolding.Found.{types_of, numbers_of}
use Rattle.ms_outline.proofs.family.Family.add_all.Given as goal

abbrev pub invariant-loop-tree : goal.invariant-loop-tree
invariant-loop-tree l = record {
  left : l.next + nodes_of (shapes (drop l.tree-index l.trees)) ≡ l.first + nodes_of (shapes l.trees);
  types : l.self.types.items ++ types_of (shapes (drop l.tree-index l.trees)) ≡ l.initial.self.types.items ++ types_of (shapes l.trees);
  numbers : l.self.numbers.items ++ numbers_of l.next (shapes (drop l.tree-index l.trees)) ≡ l.initial.self.numbers.items ++ numbers_of l.first (shapes l.trees);
}
