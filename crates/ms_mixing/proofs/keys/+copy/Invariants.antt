-- Twice the number of nodes, and one more for several parts.
use Rattle.std.proofs.Common.{◌≡◌, ◌≤◌, ◌+◌, ◌*◌, ◌++◌, drop, take, map}
use Rattle.def_tree.specs.Size.{nodes, nodes_of}
use Rattle.def_tree.specs.InRange.{measure_of}
use Rattle.ms_tree.specs.Shape.{shape, shapes}
use Rattle.ms_mixing.specs.Scaffolding.Repeats.{entry, held_in}
use Rattle.ms_mixing.proofs.keys.+copy.Given as goal

abbrev pub decreases-copy_keys : goal.decreases-copy_keys
decreases-copy_keys l = 2 * nodes (shape l.part.now)

abbrev pub decreases-copy_keys_of_all : goal.decreases-copy_keys_of_all
decreases-copy_keys_of_all l = 2 * nodes_of (shapes l.parts.now) + 1

abbrev pub invariant-copy_keys_of_all-loop-part : goal.invariant-copy_keys_of_all-loop-part
invariant-copy_keys_of_all-loop-part l = record {
  copied : take l.passed.keys l.entries ++ map entry (held_in l.passed.nodes (shapes (drop l.part-index l.parts)))
      ≡ take l.initial.passed.keys l.initial.entries ++ map entry (held_in l.initial.passed.nodes (shapes l.parts));
  nodes : l.passed.nodes + nodes_of (shapes (drop l.part-index l.parts)) ≡ l.initial.passed.nodes + nodes_of (shapes l.parts);
  keys : l.passed.keys + measure_of (shapes (drop l.part-index l.parts)) ≤ l.initial.passed.keys + measure_of (shapes l.parts);
}
