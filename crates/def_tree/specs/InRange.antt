-- Which trees the calls take. What a text of 65,536 bytes can spell stays within these numbers.
use Rattle.std.specs.Prelude.{ℕ, ◌+◌, max, length, ◌≤◌}
use Rattle.def_tree.specs.Tree.{Tree, Trees, just_0, just_1, pk_k, pk_h, older, after, hash, and_or, two, thresh, multi, wrap, none, more}
use Rattle.def_tree.specs.Range.{IsWritable}

-- how many nodes and keys of `multi` it has
abbrev mutual
  pub measure : Tree → ℕ
  measure just_0 = 1
  measure just_1 = 1
  measure (pk_k key) = 1
  measure (pk_h key) = 1
  measure (older n) = 1
  measure (after n) = 1
  measure (hash kind value) = 1
  measure (and_or x y z) = measure x + measure y + measure z + 1
  measure (two kind x y) = measure x + measure y + 1
  measure (thresh k xs) = measure_of xs + 1
  measure (multi k keys) = length keys + 1
  measure (wrap wrapper x) = measure x + 1

  pub measure_of : Trees → ℕ
  measure_of none = 0
  measure_of (more x xs) = measure x + measure_of xs

-- how many nodes its longest path from the root down has
abbrev mutual
  pub depth : Tree → ℕ
  depth just_0 = 1
  depth just_1 = 1
  depth (pk_k key) = 1
  depth (pk_h key) = 1
  depth (older n) = 1
  depth (after n) = 1
  depth (hash kind value) = 1
  depth (and_or x y z) = max (depth x) (max (depth y) (depth z)) + 1
  depth (two kind x y) = max (depth x) (depth y) + 1
  depth (thresh k xs) = depth_of xs + 1
  depth (multi k keys) = 1
  depth (wrap wrapper x) = depth x + 1

  pub depth_of : Trees → ℕ
  depth_of none = 0
  depth_of (more x xs) = max (depth x) (depth_of xs)

abbrev pub MOST_MEASURE : ℕ
MOST_MEASURE = 131072

abbrev pub MOST_DEPTH : ℕ
MOST_DEPTH = 257

-- the tree is in range
pub record IsInRange (t : Tree) : Type 0 where
  pub measure : measure t ≤ MOST_MEASURE
  pub depth : depth t ≤ MOST_DEPTH
  pub writable : IsWritable t
