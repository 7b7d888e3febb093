-- The list of nodes: its length, and its order.
use Rattle.std.proofs.Common.{◌≡◌, length, refl, arith, append_assoc, length-append}
use Rattle.std.proofs.lemmas.List.{append-nil}
use Rattle.def_tree.specs.Tree.{Trees, just_0, just_1, pk_k, pk_h, older, after, hash, and_or, two, thresh, multi, wrap, none, more}
use Rattle.def_tree.specs.Size.{nodes_of}
use Rattle.def_tree.specs.Nodes.{nodes_of_all}
use Rattle.def_tree.specs.Laws.{NodesAreAll, RootIsLast}

mutual
  pub nodes_are_all : NodesAreAll
  nodes_are_all just_0 = refl
  nodes_are_all just_1 = refl
  nodes_are_all (pk_k key) = refl
  nodes_are_all (pk_h key) = refl
  nodes_are_all (older n) = refl
  nodes_are_all (after n) = refl
  nodes_are_all (hash kind value) = refl
  nodes_are_all (and_or x y z) = simp (length-append, nodes_are_all x, nodes_are_all y, nodes_are_all z) (omega arith)
  nodes_are_all (two kind x y) = simp (length-append, nodes_are_all x, nodes_are_all y) (omega arith)
  nodes_are_all (thresh k xs) = simp (length-append, trees_are_all xs) (omega arith)
  nodes_are_all (multi k keys) = refl
  nodes_are_all (wrap wrapper x) = simp (length-append, nodes_are_all x) (omega arith)

  pub trees_are_all : (xs : Trees) → length (nodes_of_all xs) ≡ nodes_of xs
  trees_are_all none = refl
  trees_are_all (more x xs) = simp (length-append, nodes_are_all x, trees_are_all xs)

pub root_is_last : RootIsLast
root_is_last just_0 = refl
root_is_last just_1 = refl
root_is_last (pk_k key) = refl
root_is_last (pk_h key) = refl
root_is_last (older n) = refl
root_is_last (after n) = refl
root_is_last (hash kind value) = refl
root_is_last (and_or x y z) = simp (append_assoc, append-nil)
root_is_last (two kind x y) = simp (append_assoc, append-nil)
root_is_last (thresh k xs) = refl
root_is_last (multi k keys) = refl
root_is_last (wrap wrapper x) = simp append-nil
