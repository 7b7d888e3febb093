-- A node without what stands below it.
use Rattle.std.specs.Prelude.{ℕ}
use Rattle.def_tree.specs.Tree.{Tree, just_0, and_or, two, thresh, wrap, none}
use Rattle.def_outline.specs.Outline.{Node}

-- a threshold has no children then, and in the place of all others stands a `0`
abbrev pub bare : Tree → Tree
bare (and_or x y z) = and_or just_0 just_0 just_0
bare (two kind x y) = two kind just_0 just_0
bare (thresh k xs) = thresh k none
bare (wrap wrapper x) = wrap wrapper just_0
bare leaf = leaf

-- a node's depth, and the node so
abbrev pub bared : Node → ℕ × Tree
bared n = (n.depth, bare n.tree)
