-- The keys that a plan asks are byte strings.
use Rattle.std.proofs.Common.{Bool, true, false, List, [], ◌∷◌, if◌then◌else◌}
use Rattle.def_script.specs.Bytes.{IsBytes}
use Rattle.def_tree.specs.declared.Two.TheVariants as kind
use Rattle.def_tree.specs.declared.Wrapper.TheVariants as wrapper
use Rattle.def_tree.specs.Tree.{Tree, Trees, Key, pk_k, pk_h, and_or, two, thresh, multi, wrap, none, more}
use Rattle.def_tree.specs.Range.{IsKey, IsWritable, AreWritable}
use Rattle.def_assets.specs.Assets.{Assets}
use Rattle.def_plan.specs.Taken.{children_taken, signers_taken, keys_of_set, taken, taken_of_children}
use Rattle.def_lines.proofs.Lists.{Every, from_all, every_joined, every_weaker}

one_of : (test : Bool) (a b : List Key) → Every IsBytes a → Every IsBytes b → Every IsBytes (if test then a else b)
one_of true a b p q = p
one_of false a b p q = q

set_are : (own : List Key) (set : List Bool) → Every IsBytes own → Every IsBytes (keys_of_set own set)
set_are [] set h = tt
set_are (key ∷ own) [] h = tt
set_are (key ∷ own) (true ∷ set) h = (h.0, set_are own set h.1)
set_are (key ∷ own) (false ∷ set) h = set_are own set h.1

key_bytes : (key : Key) → IsKey key → IsBytes key
key_bytes key is = is.bytes

module _ (assets : Assets) where
  mutual
    pub taken_are : (t : Tree) → IsWritable t → Every IsBytes (taken assets t)
    taken_are (pk_k key) w = (w.bytes, tt)
    taken_are (pk_h key) w = (w.bytes, tt)
    taken_are (and_or x y z) w =
        one_of _ _ _ (every_joined IsBytes (taken assets x) (taken assets y) (taken_are x w.0) (taken_are y w.1)) (taken_are z w.2)
    taken_are (two kind.AndV x y) w = every_joined IsBytes (taken assets x) (taken assets y) (taken_are x w.0) (taken_are y w.1)
    taken_are (two kind.AndB x y) w = every_joined IsBytes (taken assets x) (taken assets y) (taken_are x w.0) (taken_are y w.1)
    taken_are (two kind.OrB x z) w = one_of _ _ _ (every_joined IsBytes (taken assets x) [] (taken_are x w.0) tt) (taken_are z w.1)
    taken_are (two which x z) w = one_of _ _ _ (taken_are x w.0) (taken_are z w.1)
    taken_are (thresh k xs) w = children_are xs (children_taken assets k xs) w.2
    taken_are (multi k own) w = set_are own (signers_taken assets k own) (every_weaker IsKey IsBytes key_bytes own (from_all IsKey own w.2))
    taken_are (wrap wrapper.D x) w = taken_are x w
    taken_are (wrap letter x) w = taken_are x w
    taken_are tree w = tt

    children_are : (xs : Trees) (set : List Bool) → AreWritable xs → Every IsBytes (taken_of_children assets xs set)
    children_are none set w = tt
    children_are (more x xs) [] w = tt
    children_are (more x xs) (true ∷ set) w =
        every_joined IsBytes (taken assets x) (taken_of_children assets xs set) (taken_are x w.0) (children_are xs set w.1)
    children_are (more x xs) (false ∷ set) w = children_are xs set w.1
