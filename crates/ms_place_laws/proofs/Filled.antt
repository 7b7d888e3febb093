-- Trees with one and the same key everywhere: those that differ in their keys alone are then one.
use Rattle.std.proofs.Common.{◌≡◌, ℕ, suc, ◌+◌, List, [], ◌∷◌, length, map, replicate, refl, sym, ap, ◌∙◌}
use Rattle.def_tree.specs.Tree.{Key, Tree, Trees, just_0, just_1, pk_k, pk_h, older, after, hash, and_or, two, thresh, multi, wrap, none, more}
use Rattle.def_tree.specs.Size.{nodes, nodes_of}
use Rattle.ms_key_laws.specs.WithoutKeys.{no_key, without_keys, all_without_keys}

-- a key of 33 bytes, for each
abbrev pub fill : Key → Key
fill key = replicate 33 0

abbrev mutual
  pub filled : Tree → Tree
  filled just_0 = just_0
  filled just_1 = just_1
  filled (pk_k key) = pk_k (fill key)
  filled (pk_h key) = pk_h (fill key)
  filled (older n) = older n
  filled (after n) = after n
  filled (hash kind value) = hash kind value
  filled (and_or x y z) = and_or (filled x) (filled y) (filled z)
  filled (two kind x y) = two kind (filled x) (filled y)
  filled (thresh k xs) = thresh k (all_filled xs)
  filled (multi k keys) = multi k (map fill keys)
  filled (wrap wrapper x) = wrap wrapper (filled x)

  pub all_filled : Trees → Trees
  all_filled none = none
  all_filled (more x xs) = more (filled x) (all_filled xs)

keys_filled : (keys : List Key) → map fill (map no_key keys) ≡ map fill keys
keys_filled [] = refl
keys_filled (key ∷ keys) = ap (λ z. fill key ∷ z) (keys_filled keys)

mutual
  tree_filled : (x : Tree) → filled (without_keys x) ≡ filled x
  tree_filled (and_or x y z) = rw (tree_filled x, tree_filled y, tree_filled z) refl
  tree_filled (two kind x y) = rw (tree_filled x, tree_filled y) refl
  tree_filled (thresh k xs) = ap (thresh k) (trees_filled xs)
  tree_filled (multi k keys) = ap (multi k) (keys_filled keys)
  tree_filled (wrap wrapper x) = ap (wrap wrapper) (tree_filled x)
  tree_filled x = refl

  trees_filled : (xs : Trees) → all_filled (all_without_keys xs) ≡ all_filled xs
  trees_filled none = refl
  trees_filled (more x xs) = rw (tree_filled x, trees_filled xs) refl

pub same_filled : (x y : Tree) → without_keys x ≡ without_keys y → filled x ≡ filled y
same_filled x y e = sym (tree_filled x) ∙ (ap filled e ∙ tree_filled y)

pub keys_long : (keys : List Key) → length (map fill keys) ≡ length keys
keys_long [] = refl
keys_long (key ∷ keys) = ap suc (keys_long keys)

mutual
  pub nodes_filled : (x : Tree) → nodes (filled x) ≡ nodes x
  nodes_filled (and_or x y z) = rw (nodes_filled x, nodes_filled y, nodes_filled z) refl
  nodes_filled (two kind x y) = rw (nodes_filled x, nodes_filled y) refl
  nodes_filled (thresh k xs) = ap (λ (z : ℕ). z + 1) (all_nodes_filled xs)
  nodes_filled (multi k keys) = refl
  nodes_filled (wrap wrapper x) = ap (λ (z : ℕ). z + 1) (nodes_filled x)
  nodes_filled x = refl

  pub all_nodes_filled : (xs : Trees) → nodes_of (all_filled xs) ≡ nodes_of xs
  all_nodes_filled none = refl
  all_nodes_filled (more x xs) = rw (nodes_filled x, all_nodes_filled xs) refl
