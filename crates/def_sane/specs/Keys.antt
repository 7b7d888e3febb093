-- Repeated keys (BIP 379: no key may stand twice in a sane miniscript).
use Rattle.std.specs.Prelude.{ℕ, ◌+◌, Bool, false, ◌||◌, List, [], ◌∷◌, ◌++◌, Option, Some, None, Contains, ⊤, if◌then◌else◌}
use Rattle.std.specs.Str.{bytes_eq}
use Rattle.std.specs.List.{list_any}
use Rattle.def_tree.specs.Tree.{Tree, Trees, Key, just_0, just_1, pk_k, pk_h, older, after, hash, and_or, two, thresh, multi, wrap, none, more}
use Rattle.def_tree.specs.Nodes.{all_nodes}

-- the keys that the root of this tree holds itself, in order
abbrev pub own_keys : Tree → List Key
own_keys just_0 = []
own_keys just_1 = []
own_keys (pk_k key) = key ∷ []
own_keys (pk_h key) = key ∷ []
own_keys (older n) = []
own_keys (after n) = []
own_keys (hash kind value) = []
own_keys (and_or x y z) = []
own_keys (two kind x y) = []
own_keys (thresh k xs) = []
own_keys (multi k keys) = keys
own_keys (wrap wrapper x) = []

-- the keys of a tree in the order of its nodes
abbrev mutual
  pub keys : Tree → List Key
  keys just_0 = []
  keys just_1 = []
  keys (pk_k key) = key ∷ []
  keys (pk_h key) = key ∷ []
  keys (older n) = []
  keys (after n) = []
  keys (hash kind value) = []
  keys (and_or x y z) = keys x ++ keys y ++ keys z
  keys (two kind x y) = keys x ++ keys y
  keys (thresh k xs) = keys_of_all xs
  keys (multi k own) = own
  keys (wrap wrapper x) = keys x

  pub keys_of_all : Trees → List Key
  keys_of_all none = []
  keys_of_all (more x xs) = keys x ++ keys_of_all xs

-- no key stands twice
abbrev pub AreDistinct : List Key → Type 0
AreDistinct [] = ⊤
AreDistinct (key ∷ rest) = (¬ Contains rest key) × AreDistinct rest

-- some key of the list stands before, or earlier in the list
abbrev pub repeats : (before : List Key) → List Key → Bool
repeats before [] = false
repeats before (key ∷ rest) = list_any (bytes_eq key) before || repeats (before ++ key ∷ []) rest

-- the first of the nodes that repeats a key; they are numbered from `first` on, and the keys `before` stand in earlier nodes
abbrev pub repeated_from : (first : ℕ) → (before : List Key) → List Tree → Option ℕ
repeated_from first before [] = None
repeated_from first before (node ∷ nodes) =
    if repeats before (own_keys node) then Some first
    else repeated_from (first + 1) (before ++ own_keys node) nodes

-- the first node that holds a key which stands in an earlier node or earlier in itself
abbrev pub repeated_key : Tree → Option ℕ
repeated_key tree = repeated_from 0 [] (all_nodes tree)
