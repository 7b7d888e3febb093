-- Which nodes mix timelocks depends on no key.
use Rattle.std.proofs.Common.{◌≡◌, ℕ, ◌+◌, List, [], ◌∷◌, map, refl, sym, ap, ◌∙◌}
use Rattle.std.specs.Prelude.{nat_le, ◌&&◌}
use Rattle.std.specs.List.{position_from}
use Rattle.std.proofs.lemmas.List.{map-append}
use Rattle.def_tree.specs.declared.Two.TheVariants as kind
use Rattle.def_tree.specs.Tree.{Tree, Trees, and_or, two, thresh, multi, wrap, none, more}
use Rattle.def_tree.specs.Nodes.{all_nodes, nodes_of_all}
use Rattle.def_sane.specs.Locks.{kinds, kinds_of_all, kinds_of_each, some_conflict, mixes, mix}
use Rattle.ms_place_laws.proofs.Filled.{filled, all_filled}

mutual
  kinds_filled : (x : Tree) → kinds (filled x) ≡ kinds x
  kinds_filled (and_or x y z) = rw (kinds_filled x, kinds_filled y, kinds_filled z) refl
  kinds_filled (two kind x y) = rw (kinds_filled x, kinds_filled y) refl
  kinds_filled (thresh k xs) = all_kinds_filled xs
  kinds_filled (multi k keys) = refl
  kinds_filled (wrap wrapper x) = kinds_filled x
  kinds_filled x = refl

  all_kinds_filled : (xs : Trees) → kinds_of_all (all_filled xs) ≡ kinds_of_all xs
  all_kinds_filled none = refl
  all_kinds_filled (more x xs) = rw (kinds_filled x, all_kinds_filled xs) refl

each_filled : (xs : Trees) → kinds_of_each (all_filled xs) ≡ kinds_of_each xs
each_filled none = refl
each_filled (more x xs) = rw (kinds_filled x, each_filled xs) refl

mixes_filled : (x : Tree) → mixes (filled x) ≡ mixes x
mixes_filled (and_or x y z) = rw (kinds_filled x, kinds_filled y) refl
mixes_filled (two kind.AndV x y) = rw (kinds_filled x, kinds_filled y) refl
mixes_filled (two kind.AndB x y) = rw (kinds_filled x, kinds_filled y) refl
mixes_filled (two kind x y) = refl
mixes_filled (thresh k xs) = ap (λ z. nat_le 2 k && some_conflict z) (each_filled xs)
mixes_filled x = refl

mutual
  nodes_are : (x : Tree) → all_nodes (filled x) ≡ map filled (all_nodes x)
  nodes_are (and_or x y z) =
      rw (nodes_are x, nodes_are y, nodes_are z) (sym (simp map-append refl))
  nodes_are (two kind x y) = rw (nodes_are x, nodes_are y) (sym (simp map-append refl))
  nodes_are (thresh k xs) = rw (all_nodes_are xs) (sym (map-append filled (nodes_of_all xs) (thresh k xs ∷ [])))
  nodes_are (wrap wrapper x) = rw (nodes_are x) (sym (map-append filled (all_nodes x) (wrap wrapper x ∷ [])))
  nodes_are x = refl

  all_nodes_are : (xs : Trees) → nodes_of_all (all_filled xs) ≡ map filled (nodes_of_all xs)
  all_nodes_are none = refl
  all_nodes_are (more x xs) = rw (nodes_are x, all_nodes_are xs) (sym (map-append filled (all_nodes x) (nodes_of_all xs)))

position_filled : (i : ℕ) (xs : List Tree) → position_from mixes i (map filled xs) ≡ position_from mixes i xs
position_filled i [] = refl
position_filled i (x ∷ xs) = rw (mixes_filled x, position_filled (i + 1) xs) refl

pub mix_filled : (x : Tree) → mix (filled x) ≡ mix x
mix_filled x = ap (position_from mixes 0) (nodes_are x) ∙ position_filled 0 (all_nodes x)
