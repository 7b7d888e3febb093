-- What contracts see of a tree: a tree of the definitions.
use Rattle.std.specs.Prelude.{List, [], ◌∷◌, map}
use Rattle.def_tree.specs.Tree as model
use Rattle.ms_hash.specs.Value.{kind_of, bytes_of}
use Rattle.ms_tree.specs.declared.tree.Leaf.{Leaf}
use Rattle.ms_tree.specs.declared.tree.Leaf.TheVariants as leaf
use Rattle.ms_tree.specs.declared.tree.Node.TheOpen.{Node-F, Tree-F}
use Rattle.ms_tree.specs.declared.tree.Node.TheFolds.{fold-Tree}
use Rattle.ms_tree.specs.declared.tree.Tree.{Tree}

abbrev pub leaf_shape : Leaf → model.Tree
leaf_shape leaf.Zero = model.just_0
leaf_shape leaf.One = model.just_1
leaf_shape (leaf.PkK key) = model.pk_k key
leaf_shape (leaf.PkH key) = model.pk_h key
leaf_shape (leaf.Older n) = model.older n
leaf_shape (leaf.After n) = model.after n
leaf_shape (leaf.Hash value) = model.hash (kind_of value) (bytes_of value)

-- a list of trees, as the trees of a threshold
abbrev pub trees_of : List model.Tree → model.Trees
trees_of [] = model.none
trees_of (x ∷ xs) = model.more x (trees_of xs)

-- a node whose parts are seen
abbrev pub node_shape : Node-F model.Tree model.Tree → model.Tree
node_shape (Node-F.Leaf leaf) = leaf_shape leaf.now
node_shape (Node-F.AndOr x y z) = model.and_or x y z
node_shape (Node-F.Two kind x y) = model.two kind x y
node_shape (Node-F.Thresh k xs) = model.thresh k (trees_of xs.now)
node_shape (Node-F.Multi k keys) = model.multi k keys.now
node_shape (Node-F.Wrap wrapper x) = model.wrap wrapper x

abbrev pub tree_shape : Tree-F model.Tree model.Tree → model.Tree
tree_shape t = t.node.now

-- a tree, from its leaves up
abbrev pub shape : Tree → model.Tree
shape = fold-Tree model.Tree model.Tree node_shape tree_shape

abbrev pub shapes : List Tree → model.Trees
shapes ts = trees_of (map shape ts)
