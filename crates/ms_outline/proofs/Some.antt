-- A tree has a node.
use Rattle.std.proofs.Common.{◌≤◌, arith}
use Rattle.def_tree.specs.Size.{nodes}
use Rattle.def_tree.specs.Tree.{Tree, and_or, two, thresh, wrap}

pub some_nodes : (t : Tree) → 1 ≤ nodes t
some_nodes (and_or x y z) = omega arith
some_nodes (two kind x y) = omega arith
some_nodes (thresh k xs) = omega arith
some_nodes (wrap wrapper x) = omega arith
some_nodes leaf = omega arith
