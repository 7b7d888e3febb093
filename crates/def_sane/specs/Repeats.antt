-- Which node repeats a key.
use Rattle.std.specs.Prelude.{◌≡◌, ℕ, ◌++◌, take, slice_get, Some, Contains, flat_map}
use Rattle.def_tree.specs.Tree.{Tree, Key}
use Rattle.def_tree.specs.Nodes.{all_nodes}
use Rattle.def_sane.specs.Keys.{own_keys}

-- the node of this number is a `pk_k`, `pk_h` or `multi` that holds a key which stands in an earlier node or
-- earlier in itself
abbrev pub Repeats : Tree → (number : ℕ) → Type 0
Repeats tree number =
    (node : Tree) × (slice_get (all_nodes tree) number ≡ Some node) ×
    ((place : ℕ) × (key : Key) × (slice_get (own_keys node) place ≡ Some key) ×
    Contains (flat_map own_keys (take number (all_nodes tree)) ++ take place (own_keys node)) key)
