-- The nodes of a tree, each as the tree below it, by their numbers: children before parents, left to right; number n at place n.
use Rattle.std.specs.Prelude.{List, [], ◌∷◌, ◌++◌}
use Rattle.def_tree.specs.Tree.{Tree, Trees, just_0, just_1, pk_k, pk_h, older, after, hash, and_or, two, thresh, multi, wrap, none, more}

abbrev mutual
  pub all_nodes : Tree → List Tree
  all_nodes just_0 = just_0 ∷ []
  all_nodes just_1 = just_1 ∷ []
  all_nodes (pk_k key) = pk_k key ∷ []
  all_nodes (pk_h key) = pk_h key ∷ []
  all_nodes (older n) = older n ∷ []
  all_nodes (after n) = after n ∷ []
  all_nodes (hash kind value) = hash kind value ∷ []
  all_nodes (and_or x y z) = all_nodes x ++ all_nodes y ++ all_nodes z ++ and_or x y z ∷ []
  all_nodes (two kind x y) = all_nodes x ++ all_nodes y ++ two kind x y ∷ []
  all_nodes (thresh k xs) = nodes_of_all xs ++ thresh k xs ∷ []
  all_nodes (multi k keys) = multi k keys ∷ []
  all_nodes (wrap wrapper x) = all_nodes x ++ wrap wrapper x ∷ []

  pub nodes_of_all : Trees → List Tree
  nodes_of_all none = []
  nodes_of_all (more x xs) = all_nodes x ++ nodes_of_all xs
