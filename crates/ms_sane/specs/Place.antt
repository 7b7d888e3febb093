-- The nodes that reasons name.
use Rattle.std.specs.Prelude.{◌<◌, ⊤}
use Rattle.def_tree.specs.Tree.{Tree}
use Rattle.def_tree.specs.Size.{nodes}
use Rattle.def_sane.specs.declared.Unfit.{Unfit}
use Rattle.def_sane.specs.declared.Unfit.TheVariants as unfit

-- a node that a reason names is one of the tree
abbrev pub IsOfTree : Tree → Unfit → Type 0
IsOfTree tree (unfit.Rule at) = at.node < nodes tree
IsOfTree tree (unfit.Malleable at) = at.node < nodes tree
IsOfTree tree (unfit.MixedLocks node) = node < nodes tree
IsOfTree tree (unfit.RepeatedKey node) = node < nodes tree
IsOfTree tree other = ⊤
