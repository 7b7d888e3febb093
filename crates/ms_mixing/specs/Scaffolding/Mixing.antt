-- The kinds of a tree's locks, or the first node that mixes, node by node.
use Rattle.std.specs.Prelude.{ℕ, ◌+◌, Bool, true, false, ◌&&◌, nat_le, List, [], ◌∷◌, Result, Ok, Err, if◌then◌else◌}
use Rattle.def_tree.specs.declared.Two.{Two}
use Rattle.def_tree.specs.declared.Two.TheVariants as two_kind
use Rattle.def_tree.specs.Tree.{Tree, Trees, just_0, just_1, pk_k, pk_h, older, after, hash, and_or, two, thresh, multi, wrap, none, more}
use Rattle.def_tree.specs.Size.{nodes, nodes_of}
use Rattle.def_types.specs.Row.{if_ok}
use Rattle.def_sane.specs.Locks.{Kinds, no_kinds, union, conflict, kinds, some_conflict}
use Rattle.ms_mixing.specs.declared.kinds.Together.{Together}

-- a node with these kinds, which mixes or doesn't
abbrev pub of_node : (node : ℕ) → (is_mixed : Bool) → Kinds → Result Kinds ℕ
of_node node is_mixed kinds = if is_mixed then Err node else Ok kinds

-- a satisfaction of the fragment takes one of both children
abbrev pub asks_both : Two → Bool
asks_both two_kind.AndV = true
asks_both two_kind.AndB = true
asks_both two_kind.OrB = false
asks_both two_kind.OrC = false
asks_both two_kind.OrD = false
asks_both two_kind.OrI = false

-- the kinds of all
abbrev pub union_all : List Kinds → Kinds
union_all [] = no_kinds
union_all (x ∷ xs) = union x (union_all xs)

-- the kinds, or the first node that mixes: children first and left to right, where the nodes are numbered
-- from `first` on
abbrev mutual
  pub kinds_from : (first : ℕ) → Tree → Result Kinds ℕ
  kinds_from first just_0 = of_node first false no_kinds
  kinds_from first just_1 = of_node first false no_kinds
  kinds_from first (pk_k key) = of_node first false no_kinds
  kinds_from first (pk_h key) = of_node first false no_kinds
  kinds_from first (older n) = of_node first false (kinds (older n))
  kinds_from first (after n) = of_node first false (kinds (after n))
  kinds_from first (hash kind value) = of_node first false no_kinds
  kinds_from first (and_or x y z) =
      if_ok (kinds_from first x) (λ a.
      if_ok (kinds_from (first + nodes x) y) (λ b.
      if_ok (kinds_from (first + nodes x + nodes y) z) (λ c.
      of_node (first + nodes x + nodes y + nodes z) (conflict a b) (union a (union b c)))))
  kinds_from first (two kind x y) =
      if_ok (kinds_from first x) (λ a.
      if_ok (kinds_from (first + nodes x) y) (λ b.
      of_node (first + nodes x + nodes y) (asks_both kind && conflict a b) (union a b)))
  kinds_from first (thresh k xs) =
      if_ok (kinds_from_each first xs) (λ each.
      of_node (first + nodes_of xs) (nat_le 2 k && some_conflict each) (union_all each))
  kinds_from first (multi k keys) = of_node first false no_kinds
  kinds_from first (wrap wrapper x) = if_ok (kinds_from first x) (λ a. of_node (first + nodes x) false a)

  pub kinds_from_each : (first : ℕ) → Trees → Result (List Kinds) ℕ
  kinds_from_each first none = Ok []
  kinds_from_each first (more x xs) =
      if_ok (kinds_from first x) (λ a.
      if_ok (kinds_from_each (first + nodes x) xs) (λ each.
      Ok (a ∷ each)))

-- what a threshold needs to know of children of these kinds
abbrev pub together : List Kinds → Together
together xs = record { kinds = union_all xs; is_mixed = some_conflict xs }

-- of children whose kinds were asked for
abbrev pub together_of : Result (List Kinds) ℕ → Result Together ℕ
together_of r = if_ok r (λ each. Ok (together each))
