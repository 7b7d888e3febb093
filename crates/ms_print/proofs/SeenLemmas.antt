-- How the texts of leaves begin.
use Rattle.std.proofs.Common.{◌≡◌, false, refl}
use Rattle.ms_tree.specs.declared.tree.Leaf.{Leaf}
use Rattle.ms_tree.specs.declared.tree.Leaf.TheVariants as leaf
use Rattle.ms_tree.specs.Shape.{leaf_shape}
use Rattle.ms_print.specs.Scaffolding.Seen.{is_lettered}

pub leaf_is_bare : (v : Leaf) → is_lettered (leaf_shape v) ≡ false
leaf_is_bare leaf.Zero = refl
leaf_is_bare v = refl
