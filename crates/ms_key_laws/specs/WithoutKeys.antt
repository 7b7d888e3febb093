-- A tree but for its keys.
use Rattle.std.specs.Prelude.{[], map}
use Rattle.def_tree.specs.Tree.{Key, Tree, Trees, just_0, just_1, pk_k, pk_h, older, after, hash, and_or, two, thresh, multi, wrap, none, more}

-- nothing, in the place of a key
abbrev pub no_key : Key → Key
no_key key = []

-- the tree with nothing in the place of each key: two trees that are the same then differ in their keys alone
abbrev mutual
  pub without_keys : Tree → Tree
  without_keys just_0 = just_0
  without_keys just_1 = just_1
  without_keys (pk_k key) = pk_k (no_key key)
  without_keys (pk_h key) = pk_h (no_key key)
  without_keys (older n) = older n
  without_keys (after n) = after n
  without_keys (hash kind value) = hash kind value
  without_keys (and_or x y z) = and_or (without_keys x) (without_keys y) (without_keys z)
  without_keys (two kind x y) = two kind (without_keys x) (without_keys y)
  without_keys (thresh k xs) = thresh k (all_without_keys xs)
  without_keys (multi k keys) = multi k (map no_key keys)
  without_keys (wrap wrapper x) = wrap wrapper (without_keys x)

  pub all_without_keys : Trees → Trees
  all_without_keys none = none
  all_without_keys (more x xs) = more (without_keys x) (all_without_keys xs)
