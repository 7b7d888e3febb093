-- The outline of a tree: its nodes, a node before its children, and these left to right.
use Rattle.std.specs.Prelude.{ℕ, ◌+◌, List, [], ◌∷◌, ◌++◌}
use Rattle.def_tree.specs.Size.{nodes, nodes_of}
use Rattle.def_tree.specs.Tree.{Tree, Trees, just_0, just_1, pk_k, pk_h, older, after, hash, and_or, two, thresh, multi, wrap, none, more}

pub record Node : Type 0 where
  -- its number: children have theirs before their parent, from left to right
  pub number : ℕ
  -- 0 for the root, and one more for each child
  pub depth : ℕ
  -- what stands below it, itself included
  pub tree : Tree

abbrev pub node : (number depth : ℕ) → Tree → Node
node number depth tree = record { number = number; depth = depth; tree = tree }

-- the outline of a tree at a depth, whose nodes have the numbers from `first` on
abbrev mutual
  pub outline : (first depth : ℕ) → Tree → List Node
  outline first depth (and_or x y z) =
      node (first + nodes x + nodes y + nodes z) depth (and_or x y z)
      ∷ outline first (depth + 1) x ++ outline (first + nodes x) (depth + 1) y
      ++ outline (first + nodes x + nodes y) (depth + 1) z
  outline first depth (two kind x y) =
      node (first + nodes x + nodes y) depth (two kind x y) ∷ outline first (depth + 1) x ++ outline (first + nodes x) (depth + 1) y
  outline first depth (thresh k xs) = node (first + nodes_of xs) depth (thresh k xs) ∷ outlines first (depth + 1) xs
  outline first depth (wrap wrapper x) = node (first + nodes x) depth (wrap wrapper x) ∷ outline first (depth + 1) x
  outline first depth just_0 = node first depth just_0 ∷ []
  outline first depth just_1 = node first depth just_1 ∷ []
  outline first depth (pk_k key) = node first depth (pk_k key) ∷ []
  outline first depth (pk_h key) = node first depth (pk_h key) ∷ []
  outline first depth (older n) = node first depth (older n) ∷ []
  outline first depth (after n) = node first depth (after n) ∷ []
  outline first depth (hash kind value) = node first depth (hash kind value) ∷ []
  outline first depth (multi k keys) = node first depth (multi k keys) ∷ []

  -- of trees side by side
  pub outlines : (first depth : ℕ) → Trees → List Node
  outlines first depth none = []
  outlines first depth (more x xs) = outline first depth x ++ outlines (first + nodes x) depth xs
