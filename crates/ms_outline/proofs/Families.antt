-- The children of a node: as many types as numbers, and where their roots stand.
use Rattle.std.proofs.Common.{◌≡◌, ℕ, ◌+◌, ◌-◌, ◌<◌, ◌≤◌, [], ◌∷◌, length, refl, ap, arith, length-append, All}
use Rattle.std.proofs.lemmas.List.Elements.{All-nil, All-cons}
use Rattle.def_tree.specs.Children.{children}
use Rattle.def_tree.specs.Nodes.{nodes_of_all}
use Rattle.def_tree.specs.Size.{nodes, nodes_of}
use Rattle.def_tree.specs.Tree.{Tree, Trees, none, more}
use Rattle.def_tree.proofs.NodeLists.{nodes_are_all, trees_are_all, root_is_last}
use Rattle.ms_types.specs.Replaced.{count}
use Rattle.ms_outline.specs.Scaffolding.Found.{types_of, numbers_of}

pub types_length : (xs : Trees) → length (types_of xs) ≡ count xs
types_length none = refl
types_length (more x xs) = omega (arith, types_length xs)

pub numbers_length : (first : ℕ) (xs : Trees) → length (numbers_of first xs) ≡ count xs
numbers_length first none = refl
numbers_length first (more x xs) = omega (arith, numbers_length (first + nodes x) xs)

pub numbers_below : (m first : ℕ) (xs : Trees) → 0 < m → first + nodes_of xs ≤ m → All (λ n. n < m) (numbers_of first xs)
numbers_below m first none some few = All-nil (λ n. n < m)
numbers_below m first (more x xs) some few =
    All-cons (λ n. n < m) (first + nodes x - 1) (numbers_of (first + nodes x) xs) (omega (arith, few, some, positive x)) (numbers_below m (first + nodes x) xs some (omega (arith, few)))
  where
    positive : (t : Tree) → 0 < nodes t
    positive t = omega (arith, length-append (nodes_of_all (children t)) (t ∷ []), ap length (root_is_last t), nodes_are_all t)

pub children_size : (t : Tree) → nodes_of (children t) + 1 ≡ nodes t
children_size t =
    omega (arith, length-append (nodes_of_all (children t)) (t ∷ []), ap length (root_is_last t), nodes_are_all t, trees_are_all (children t))
