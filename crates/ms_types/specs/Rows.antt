-- The row of a leaf, as the trees of the code have leaves.
use Rattle.def_types.specs.Row.{Row, Rows}
use Rattle.ms_tree.specs.declared.tree.Leaf.{Leaf}
use Rattle.ms_tree.specs.declared.tree.Leaf.TheVariants as leaf

abbrev pub leaf_row : {A : Type 0} → Rows A → Leaf → Row A
leaf_row rows leaf.Zero = rows.just_0
leaf_row rows leaf.One = rows.just_1
leaf_row rows (leaf.PkK key) = rows.pk_k
leaf_row rows (leaf.PkH key) = rows.pk_h
leaf_row rows (leaf.Older n) = rows.older n
leaf_row rows (leaf.After n) = rows.after n
leaf_row rows (leaf.Hash value) = rows.hash
