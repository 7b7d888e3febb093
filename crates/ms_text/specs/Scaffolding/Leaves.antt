-- Fragments whose argument is one word.
use Rattle.std.specs.Prelude.{ℕ, Bool, true, false, List}
use Rattle.def_tree.specs.Tree.{Tree, wrap}
use Rattle.def_tree.specs.declared.Wrapper.TheVariants.{C}
use Rattle.ms_tree.specs.declared.tree.Leaf.{Leaf}
use Rattle.ms_tree.specs.declared.tree.Leaf.TheVariants as leaf
use Rattle.ms_tree.specs.Shape.{leaf_shape}
use Rattle.ms_text.specs.declared.names.LeafName.{LeafName}
use Rattle.ms_text.specs.declared.names.LeafName.TheVariants as name

-- the tree of a fragment with this leaf
abbrev pub leaf_tree : LeafName → Leaf → Tree
leaf_tree name.Pk leaf = wrap C (leaf_shape leaf)
leaf_tree name.Pkh leaf = wrap C (leaf_shape leaf)
leaf_tree n leaf = leaf_shape leaf

-- whether the argument is a key
abbrev pub takes_key : LeafName → Bool
takes_key name.PkK = true
takes_key name.PkH = true
takes_key name.Pk = true
takes_key name.Pkh = true
takes_key n = false

-- the leaf of a fragment with this key
abbrev pub leaf_of_key : LeafName → List ℕ → Leaf
leaf_of_key name.PkH key = leaf.PkH key
leaf_of_key name.Pkh key = leaf.PkH key
leaf_of_key n key = leaf.PkK key
