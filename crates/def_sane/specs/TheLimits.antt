-- The limits that a tree has. It is a theorem that each tree has some and no others (laws `limits` of `def_limits`); these are
-- the ones of that theorem, and what is said of them follows from their being limits.
use Rattle.def_tree.specs.Tree.{Tree}
use Rattle.def_limits.specs.declared.Limits.{Limits}
use Rattle.def_limits.proofs.Greatest.{limits_exist}

-- the limits of the tree
unfoldable pub the_limits : Tree → Limits
the_limits tree = (limits_exist tree).0
