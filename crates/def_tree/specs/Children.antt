-- The children of a node.
use Rattle.def_tree.specs.Tree.{Tree, Trees, just_0, just_1, pk_k, pk_h, older, after, hash, and_or, two, thresh, multi, wrap, none, more}

-- the children of the root, from left to right
abbrev pub children : Tree → Trees
children just_0 = none
children just_1 = none
children (pk_k key) = none
children (pk_h key) = none
children (older n) = none
children (after n) = none
children (hash kind value) = none
children (and_or x y z) = more x (more y (more z none))
children (two kind x y) = more x (more y none)
children (thresh k xs) = xs
children (multi k keys) = none
children (wrap wrapper x) = more x none
