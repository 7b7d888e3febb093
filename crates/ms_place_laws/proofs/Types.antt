-- Types and malleability properties depend on no key.
use Rattle.std.proofs.Common.{◌≡◌, ℕ, ◌+◌, List, map, refl, ap}
use Rattle.def_tree.specs.Tree.{Key, Tree, Trees, and_or, two, thresh, multi, wrap, none, more}
use Rattle.def_tree.specs.Size.{nodes}
use Rattle.def_types.specs.Row.{Rows, answer}
use Rattle.def_types.specs.System.{typed_from, typed_each}
use Rattle.def_types.specs.Correctness.{correctness, correctness_of, multi_row}
use Rattle.def_types.specs.Malleable.{malleability, malleability_of}
use Rattle.ms_place_laws.proofs.Filled.{fill, filled, all_filled, keys_long, nodes_filled, all_nodes_filled}

module _ {A : Type 0} (rows : Rows A) (same : (k : ℕ) (keys : List Key) → rows.multi k (map fill keys) ≡ rows.multi k keys) where
  mutual
    typed_filled : (first : ℕ) (x : Tree) → typed_from rows first (filled x) ≡ typed_from rows first x
    typed_filled first (and_or x y z) =
        rw (nodes_filled x, nodes_filled y, nodes_filled z, typed_filled first x, typed_filled (first + nodes x) y, typed_filled (first + nodes x + nodes y) z) refl
    typed_filled first (two kind x y) = rw (nodes_filled x, nodes_filled y, typed_filled first x, typed_filled (first + nodes x) y) refl
    typed_filled first (thresh k xs) = rw (all_nodes_filled xs, each_filled first xs) refl
    typed_filled first (multi k keys) = ap (answer first) (same k keys)
    typed_filled first (wrap wrapper x) = rw (nodes_filled x, typed_filled first x) refl
    typed_filled first x = refl

    each_filled : (first : ℕ) (xs : Trees) → typed_each rows first (all_filled xs) ≡ typed_each rows first xs
    each_filled first none = refl
    each_filled first (more x xs) = rw (nodes_filled x, typed_filled first x, each_filled (first + nodes x) xs) refl

multi_same : (k : ℕ) (keys : List Key) → multi_row k (map fill keys) ≡ multi_row k keys
unfolding multi_row
multi_same k keys = rw (keys_long keys) refl

pub type_filled : (x : Tree) → correctness_of (filled x) ≡ correctness_of x
type_filled x = typed_filled correctness multi_same 0 x

pub properties_filled : (x : Tree) → malleability_of (filled x) ≡ malleability_of x
properties_filled x = typed_filled malleability (λ k keys. refl) 0 x
