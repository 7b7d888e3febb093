-- Outlines of some trees, and letters that fit.
use Rattle.std.specs.Prelude.{◌≡◌, ℕ, List, [], ◌∷◌, map, replicate, Option, Some, None}
use Rattle.def_tree.specs.declared.Two.TheVariants as kind
use Rattle.def_tree.specs.declared.Wrapper.TheVariants as wrapper
use Rattle.def_tree.specs.Tree.{Tree, Key, just_1, pk_k, pk_h, older, two, thresh, wrap, none, more}
use Rattle.def_text.specs.Letter.{Letter, letter_of_wrapper}
use Rattle.def_types.specs.declared.rule.Rule.TheVariants as rule
use Rattle.def_outline.specs.Outline.{Node, outline}
use Rattle.def_outline.specs.Fits.{Trial, fit}

abbrev pub key : ℕ → Key
key n = 2 ∷ replicate 32 n

abbrev pub pk : ℕ → Tree
pk n = wrap wrapper.C (pk_k (key n))

abbrev pub numbers : List Node → List (ℕ × ℕ)
numbers ns = map (λ (n : Node). (n.number, n.depth)) ns

-- `or_d(pk(A),and_v(v:pkh(B),older(144)))`: the numbers of the nodes and their depths
abbrev pub OutlineOfChoice : Type 0
OutlineOfChoice =
    numbers (outline 0 0 (two kind.OrD (pk 1) (two kind.AndV (wrap wrapper.V (wrap wrapper.C (pk_h (key 2)))) (older 144))))
    ≡ (7, 0) ∷ (1, 1) ∷ (0, 2) ∷ (6, 1) ∷ (4, 2) ∷ (3, 3) ∷ (2, 4) ∷ (5, 2) ∷ []

abbrev pub letter_and_child : Option Trial → Option (Letter × ℕ)
letter_and_child None = None
letter_and_child (Some t) = Some (t.letter, t.child)

-- `or_d(pk(A),and_v(pk(B),older(144)))`: `v` before the second key
abbrev pub FitsV : Type 0
FitsV =
    letter_and_child (fit (5 ∷ 5 ∷ 82 ∷ 82 ∷ 153 ∷ 76 ∷ 0 ∷ []) (two kind.OrD (pk 1) (two kind.AndV (pk 2) (older 144)))
    (record { node = 5; rule = rule.AndVX }))
    ≡ Some (letter_of_wrapper wrapper.V, 3)

-- `thresh(2,pk(A),pk(B),pk(C))`: two children are wrong, and no letter before one is enough
abbrev pub FitsNothing : Type 0
FitsNothing =
    fit (9 ∷ 9 ∷ 80 ∷ 80 ∷ 151 ∷ 151 ∷ 0 ∷ []) (thresh 2 (more (pk 1) (more (pk 2) (more (pk 3) none))))
    (record { node = 6; rule = rule.ThreshOther })
    ≡ None

-- `t:pk(A)` is `and_v(pk(A),1)`, and both nodes of the sugar have its place: no letter can stand before the `1`
abbrev pub FitsBelowSugar : Type 0
FitsBelowSugar =
    letter_and_child (fit (2 ∷ 2 ∷ 0 ∷ 0 ∷ []) (two kind.AndV (pk 1) just_1) (record { node = 3; rule = rule.AndVX }))
    ≡ Some (letter_of_wrapper wrapper.V, 1)
