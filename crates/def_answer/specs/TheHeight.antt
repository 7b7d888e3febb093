-- The height that a tree with a correctness type has. It is a theorem that each has one and no other (laws `heights` of
-- `def_height`); this is the one of that theorem, and what is said of it follows from its being the height.
use Rattle.std.specs.Prelude.{ℕ}
use Rattle.def_tree.specs.Tree.{Tree}
use Rattle.def_height.proofs.Found.{height_exists}

-- the height of the tree, where this has a correctness type
unfoldable pub the_height : Tree → ℕ
the_height tree = (height_exists tree).0
