-- The keys that are taken are keys of the tree, in their order.
use Rattle.std.proofs.Common.{◌≡◌, Bool, true, false, List, [], ◌∷◌, ◌++◌, Contains, refl, sym, subst, ◌∙◌, ◌⊎◌, inl, inr, if◌then◌else◌}
use Rattle.std.proofs.lemmas.List.Elements.{Contains-append_cases, Contains-push_cases}
use Rattle.def_tree.specs.declared.Two.TheVariants as kind
use Rattle.def_tree.specs.declared.Wrapper.TheVariants as wrapper
use Rattle.def_tree.specs.Tree.{Tree, Trees, Key, pk_k, pk_h, and_or, two, thresh, multi, wrap, none, more}
use Rattle.def_assets.specs.Assets.{Assets}
use Rattle.def_sane.specs.Keys.{keys, keys_of_all, AreDistinct}
use Rattle.ms_row_laws.proofs.KeyLists.{first_in, later_in, no_element}
use Rattle.def_plan.specs.Plan.{IsPartOf}
use Rattle.def_plan.specs.Taken.{children_taken, signers_taken, keys_of_set, taken, taken_of_children}

part_right : (a b d : List Key) → IsPartOf a d → IsPartOf a (b ++ d)
part_right [] b d h = tt
part_right (k ∷ a) [] d h = h
part_right (k ∷ a) (f ∷ b) d h = inr (part_right (k ∷ a) b d h)

part_left : (a b d : List Key) → IsPartOf a b → IsPartOf a (b ++ d)
part_left [] b d h = tt
part_left (k ∷ a) [] d h = absurd h
part_left (k ∷ a) (f ∷ b) d (inl h) = inl (h.0, part_left a b d h.1)
part_left (k ∷ a) (f ∷ b) d (inr h) = inr (part_left (k ∷ a) b d h)

pub part_both : (a b c d : List Key) → IsPartOf a b → IsPartOf c d → IsPartOf (a ++ c) (b ++ d)
part_both [] b c d h k = part_right c b d k
part_both (x ∷ a) [] c d h k = absurd h
part_both (x ∷ a) (f ∷ b) c d (inl h) k = inl (h.0, part_both a b c d h.1 k)
part_both (x ∷ a) (f ∷ b) c d (inr h) k = inr (part_both (x ∷ a) b c d h k)

if_part : (test : Bool) (a b c : List Key) → IsPartOf a c → IsPartOf b c → IsPartOf (if test then a else b) c
if_part true a b c h k = h
if_part false a b c h k = k

pub set_part : (own : List Key) (set : List Bool) → IsPartOf (keys_of_set own set) own
set_part [] set = tt
set_part (key ∷ own) [] = tt
set_part (key ∷ own) (true ∷ set) = inl (refl, set_part own set)
set_part (key ∷ own) (false ∷ set) = part_right (keys_of_set own set) (key ∷ []) own (set_part own set)

module _ (assets : Assets) where
  mutual
    pub taken_part : (t : Tree) → IsPartOf (taken assets t) (keys t)
    taken_part (pk_k key) = inl (refl, tt)
    taken_part (pk_h key) = inl (refl, tt)
    taken_part (and_or x y z) =
        if_part _ _ _ _
        (part_left (taken assets x ++ taken assets y) (keys x ++ keys y) (keys z)
        (part_both (taken assets x) (keys x) (taken assets y) (keys y) (taken_part x) (taken_part y)))
        (part_right (taken assets z) (keys x ++ keys y) (keys z) (taken_part z))
    taken_part (two kind.AndV x y) = part_both (taken assets x) (keys x) (taken assets y) (keys y) (taken_part x) (taken_part y)
    taken_part (two kind.AndB x y) = part_both (taken assets x) (keys x) (taken assets y) (keys y) (taken_part x) (taken_part y)
    taken_part (two kind.OrB x z) = if_part _ _ _ _ (part_both (taken assets x) (keys x) [] (keys z) (taken_part x) tt) (part_right (taken assets z) (keys x) (keys z) (taken_part z))
    taken_part (two which x z) = if_part _ _ _ _ (part_left (taken assets x) (keys x) (keys z) (taken_part x)) (part_right (taken assets z) (keys x) (keys z) (taken_part z))
    taken_part (thresh k xs) = children_part xs (children_taken assets k xs)
    taken_part (multi k own) = set_part own (signers_taken assets k own)
    taken_part (wrap wrapper.D x) = taken_part x
    taken_part (wrap letter x) = taken_part x
    taken_part tree = tt

    pub children_part : (xs : Trees) (set : List Bool) → IsPartOf (taken_of_children assets xs set) (keys_of_all xs)
    children_part none set = tt
    children_part (more x xs) [] = tt
    children_part (more x xs) (true ∷ set) =
        part_both (taken assets x) (keys x) (taken_of_children assets xs set) (keys_of_all xs) (taken_part x) (children_part xs set)
    children_part (more x xs) (false ∷ set) = part_right (taken_of_children assets xs set) (keys x) (keys_of_all xs) (children_part xs set)

-- the first of a list, or another
pub first_or_other : (key : Key) (rest : List Key) (k : Key) → Contains (key ∷ rest) k → (k ≡ key) ⊎ Contains rest k
first_or_other key rest k i =
    elim (Contains-append_cases (key ∷ []) rest k i) [
      | inl h ↦ elim (Contains-push_cases [] key k h) [ inl e ↦ absurd (no_element k e) | inr e ↦ inl (sym e) ]
      | inr h ↦ inr h
    ]

pub in_part : (some all : List Key) → IsPartOf some all → (k : Key) → Contains some k → Contains all k
in_part [] all h k i = absurd (no_element k i)
in_part (key ∷ some) [] h k i = absurd h
in_part (key ∷ some) (first ∷ all) (inl h) k i =
    elim (first_or_other key some k i) [
      | inl e ↦ subst (Contains (first ∷ all)) (sym (e ∙ h.0)) (first_in first all)
      | inr j ↦ later_in first all k (in_part some all h.1 k j)
    ]
in_part (key ∷ some) (first ∷ all) (inr h) k i = later_in first all k (in_part (key ∷ some) all h k i)

pub part_distinct : (some all : List Key) → IsPartOf some all → AreDistinct all → AreDistinct some
part_distinct [] all h d = tt
part_distinct (key ∷ some) [] h d = absurd h
part_distinct (key ∷ some) (first ∷ all) (inl h) d =
    (λ i. d.0 (subst (Contains all) h.0 (in_part some all h.1 key i)), part_distinct some all h.1 d.1)
part_distinct (key ∷ some) (first ∷ all) (inr h) d = part_distinct (key ∷ some) all h d.1

pub taken_in : (assets : Assets) (t : Tree) (k : Key) → Contains (taken assets t) k → Contains (keys t) k
taken_in assets t k i = in_part (taken assets t) (keys t) (taken_part assets t) k i

pub children_in : (assets : Assets) (xs : Trees) (set : List Bool) (k : Key) → Contains (taken_of_children assets xs set) k → Contains (keys_of_all xs) k
children_in assets xs set k i = in_part (taken_of_children assets xs set) (keys_of_all xs) (children_part assets xs set) k i
