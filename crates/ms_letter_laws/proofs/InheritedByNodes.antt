-- What a miniscript hands down to its parts holds of each of its nodes.
use Rattle.std.proofs.Common.{ℕ, [], ◌∷◌, ◌++◌, All, Contains}
use Rattle.std.proofs.lemmas.List.Elements.{All-nil, All-cons, All-append, All-push, All-contains}
use Rattle.def_tree.specs.declared.Two.{Two}
use Rattle.def_tree.specs.declared.Wrapper.{Wrapper}
use Rattle.def_tree.specs.Tree.{Tree, Trees, and_or, two, thresh, wrap, none, more}
use Rattle.def_tree.specs.Range.{IsWritable, AreWritable}
use Rattle.def_types.specs.Typed.{IsTyped, AreTyped}
use Rattle.def_tree.specs.Nodes.{all_nodes, nodes_of_all}
use Rattle.ms_row_laws.proofs.SmallThresholds.{Few, AllFew}

pub record IsInherited (P : Tree → Type 0) (Q : Trees → Type 0) : Type 0 where
  pub three : (x y z : Tree) → P (and_or x y z) → P x × P y × P z
  pub both : (kind : Two) (x y : Tree) → P (two kind x y) → P x × P y
  pub all : (k : ℕ) (xs : Trees) → P (thresh k xs) → Q xs
  pub one : (wrapper : Wrapper) (x : Tree) → P (wrap wrapper x) → P x
  pub next : (x : Tree) (xs : Trees) → Q (more x xs) → P x × Q xs

module _ (P : Tree → Type 0) (Q : Trees → Type 0) (h : IsInherited P Q) where
  alone : (t : Tree) → P t → All P (t ∷ [])
  alone t p = All-cons P t [] p (All-nil P)

  mutual
    nodes_have : (t : Tree) → P t → All P (all_nodes t)
    nodes_have (and_or x y z) p =
        let q = h.three x y z p in
        All-push P (all_nodes x ++ all_nodes y ++ all_nodes z) (and_or x y z)
        (All-append P (all_nodes x ++ all_nodes y) (all_nodes z)
        (All-append P (all_nodes x) (all_nodes y) (nodes_have x q.0) (nodes_have y q.1)) (nodes_have z q.2)) p
    nodes_have (two kind x y) p =
        let q = h.both kind x y p in
        All-push P (all_nodes x ++ all_nodes y) (two kind x y)
        (All-append P (all_nodes x) (all_nodes y) (nodes_have x q.0) (nodes_have y q.1)) p
    nodes_have (thresh k xs) p = All-push P (nodes_of_all xs) (thresh k xs) (all_have xs (h.all k xs p)) p
    nodes_have (wrap wrapper x) p = All-push P (all_nodes x) (wrap wrapper x) (nodes_have x (h.one wrapper x p)) p
    nodes_have leaf p = alone leaf p

    all_have : (xs : Trees) → Q xs → All P (nodes_of_all xs)
    all_have none q = All-nil P
    all_have (more x xs) q = let r = h.next x xs q in All-append P (all_nodes x) (nodes_of_all xs) (nodes_have x r.0) (all_have xs r.1)

  node_has : (t : Tree) → P t → (node : Tree) → Contains (all_nodes t) node → P node
  node_has t p node is = All-contains P (all_nodes t) node (nodes_have t p) is

-- the nodes of a typed miniscript that can be written are typed and can be written
pub node_is_writable : (t : Tree) → IsWritable t → (node : Tree) → Contains (all_nodes t) node → IsWritable node
node_is_writable = node_has IsWritable AreWritable (record {
  three = λ x y z w. w;
  both = λ kind x y w. w;
  all = λ k xs w. w.2;
  one = λ wrapper x w. w;
  next = λ x xs w. w;
})

pub node_is_typed : (t : Tree) → IsTyped t → (node : Tree) → Contains (all_nodes t) node → IsTyped node
node_is_typed = node_has IsTyped AreTyped (record {
  three = λ x y z typed. (typed.0, typed.1, typed.2);
  both = λ kind x y typed. (typed.0, typed.1);
  all = λ k xs typed. typed.0;
  one = λ wrapper x typed. typed.0;
  next = λ x xs typed. typed;
})

-- and no threshold among them has too many children, where none of the miniscript has
pub node_is_few : (t : Tree) → Few t → (node : Tree) → Contains (all_nodes t) node → Few node
node_is_few = node_has Few AllFew (record {
  three = λ x y z few. few;
  both = λ kind x y few. few;
  all = λ k xs few. few.1;
  one = λ wrapper x few. few;
  next = λ x xs few. few;
})
