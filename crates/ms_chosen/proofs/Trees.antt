-- The children of a threshold as the definitions have them.
use Rattle.std.proofs.Common.{◌≡◌, ℕ, ◌+◌, ◌<◌, List, [], ◌∷◌, ◌++◌, length, map, get_or, take, refl, sym, ◌∙◌, ap}
use Rattle.std.proofs.lemmas.List.{map_more, map_push}
use Rattle.def_tree.specs.Tree as model
use Rattle.def_assets.specs.Assets.{Assets}
use Rattle.def_choice.specs.Least.{both}
use Rattle.def_choice.specs.Cheapest.{Child, all_dissatisfied, cheapest_of, cheapest_children}
use Rattle.def_choice.specs.Dissatisfaction.{dissatisfaction}
use Rattle.ms_tree.specs.declared.tree.Tree.{Tree}
use Rattle.ms_tree.specs.Shape.{shape, shapes}
use Rattle.ms_choice.specs.declared.children.Costs.{Costs}
use Rattle.ms_chosen.specs.Scaffolding.Costs.{costs_of_child, costs_of, AreCosts}
use Rattle.ms_chosen.specs.Scaffolding.Choice.{chosen}
use Rattle.ms_chosen.specs.Scaffolding.Children.{child_of_tree, children_of}
use Rattle.ms_chosen.proofs.Chosen.{choose, chosen_is}
use Rattle.ms_chosen.proofs.Bounds.{thresh_choose}

children_are : (assets : Assets) (xs : List Tree) → cheapest_children assets (shapes xs) ≡ children_of assets xs
children_are assets [] = refl
children_are assets (x ∷ xs) = ap (λ cs. child_of_tree assets (shape x) ∷ cs) (children_are assets xs)

pub thresh_chosen : (assets : Assets) (k : ℕ) (xs : List Tree) → cheapest_of assets (model.thresh k (shapes xs)) ≡ chosen (children_of assets xs) k
thresh_chosen assets k xs =
    thresh_choose assets (shapes xs) k ∙ ap (λ cs. choose cs k) (children_are assets xs) ∙ sym (chosen_is (children_of assets xs) k)

all_choose : (assets : Assets) (xs : model.Trees) → all_dissatisfied xs ≡ choose (cheapest_children assets xs) 0
all_choose assets model.none = refl
all_choose assets (model.more x xs) = ap (λ o. both o (dissatisfaction x)) (all_choose assets xs)

pub all_chosen : (assets : Assets) (xs : List Tree) → all_dissatisfied (shapes xs) ≡ chosen (children_of assets xs) 0
all_chosen assets xs = all_choose assets (shapes xs) ∙ ap (λ cs. choose cs 0) (children_are assets xs) ∙ sym (chosen_is (children_of assets xs) 0)

-- the weights of a child
pub costs_child : (assets : Assets) (x : Tree) (c : Costs) → AreCosts assets (shape x) c → c ≡ costs_of_child (child_of_tree assets (shape x))
costs_child assets x c is = λ j. record { sat = is.sat j; dsat = is.dsat j }

-- a further child, with its weights
pub costs_more : (child : Tree → Child) (xs : List Tree) (i : ℕ) (x : Tree) (c : Costs) → i < length xs → x ≡ get_or xs i x → c ≡ costs_of_child (child x)
    → costs_of (map child (take i xs)) ++ c ∷ [] ≡ costs_of (map child (take (i + 1) xs))
costs_more child xs i x c below at is =
    let this : c ≡ costs_of_child (child (get_or xs i x)) = is ∙ ap (λ y. costs_of_child (child y)) at in
    ap (λ d. costs_of (map child (take i xs)) ++ d ∷ []) this ∙
    sym (map_push costs_of_child (map child (take i xs)) (child (get_or xs i x))) ∙
    sym (ap costs_of (map_more child xs i x below))
