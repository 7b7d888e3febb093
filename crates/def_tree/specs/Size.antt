-- How many nodes a tree has.
use Rattle.std.specs.Prelude.{ℕ, ◌+◌}
use Rattle.def_tree.specs.Tree.{Tree, Trees, just_0, just_1, pk_k, pk_h, older, after, hash, and_or, two, thresh, multi, wrap, none, more}

-- how many nodes it has. They are numbered from 0, children before parents and left to right, so the root has the greatest number
abbrev mutual
  pub nodes : Tree → ℕ
  nodes just_0 = 1
  nodes just_1 = 1
  nodes (pk_k key) = 1
  nodes (pk_h key) = 1
  nodes (older n) = 1
  nodes (after n) = 1
  nodes (hash kind value) = 1
  nodes (and_or x y z) = nodes x + nodes y + nodes z + 1
  nodes (two kind x y) = nodes x + nodes y + 1
  nodes (thresh k xs) = nodes_of xs + 1
  nodes (multi k keys) = 1
  nodes (wrap wrapper x) = nodes x + 1

  pub nodes_of : Trees → ℕ
  nodes_of none = 0
  nodes_of (more x xs) = nodes x + nodes_of xs
