-- What each rule chooses at a threshold, at keys and at leaves, and whether a signature is needed there.
use Rattle.std.proofs.Common.{◌≡◌, ℕ, zero, suc, ◌≤◌, nat_le, false, List, [], ◌∷◌, length, map, reverse, Option, Some, None, is_some, refl, sym, inr, ◌∙◌, ap, arith, add-one}
use Rattle.std.specs.Prelude.{◌&&◌, IsTrue}
use Rattle.std.specs.Option.{option_map}
use Rattle.std.proofs.lemmas.Bool.Decides.{nat_tests}
use Rattle.def_machine.specs.Stacks.{Stack}
use Rattle.def_tree.specs.Tree as model
use Rattle.def_tree.specs.Tree.{Key}
use Rattle.def_tree.specs.Range.{count}
use Rattle.def_types.specs.Correctness.{thresh_row, multi_row}
use Rattle.def_types.specs.Typed.{IsTyped, types_of}
use Rattle.def_assets.specs.Assets.{Assets, unsigned}
use Rattle.def_satisfaction.specs.Rows.{EMPTY}
use Rattle.def_choice.specs.Least.{both}
use Rattle.def_choice.specs.Cheapest.{Child, cheapest_of, cheapest_children, signatures}
use Rattle.def_choice.specs.Dissatisfaction.{dissatisfaction}
use Rattle.def_choice.specs.Strict.{free_children, strict_of, strict_children}
use Rattle.def_choice.specs.Free.{free}
use Rattle.def_choice.proofs.Counted.{counted}
use Rattle.def_choice.proofs.StrictTight.{choice, choice_counted}
use Rattle.ms_tree.specs.Shape.{shape, shapes, trees_of}
use Rattle.ms_tree.specs.declared.tree.Tree.{Tree}
use Rattle.def_choice.specs.declared.choice.Choice.{Choice as Rule}
use Rattle.def_choice.specs.declared.choice.Choice.TheVariants.{Cheapest, Strict}
use Rattle.ms_choice.specs.declared.kinds.KindCounts.{KindCounts}
use Rattle.ms_choice.specs.Kinds.{allows, Counts}
use Rattle.ms_choice.proofs.Allowed.{allowed}
use Rattle.ms_chosen.specs.Scaffolding.Costs.{costs_of}
use Rattle.ms_chosen.specs.Scaffolding.Choice.{chosen}
use Rattle.ms_choice.specs.Tally.{forced, over_free}
use Rattle.ms_chosen.specs.Scaffolding.Children.{child_of_tree, children_of_keys}
use Rattle.ms_chosen.specs.Rule.{stack_by, free_by, child_by, children_by, free_child_by}
use Rattle.ms_chosen.proofs.Chosen.{choose, chosen_is, counted_same, one}
use Rattle.ms_chosen.proofs.Picked.{none_chosen, cannot_chosen, some_chosen}
use Rattle.ms_chosen.proofs.Bounds.{thresh_choose}
use Rattle.ms_chosen.proofs.Keys.{signatures_are}

pub children_are : (rule : Rule) (assets : Assets) (ts : List model.Tree) → children_by rule assets (trees_of ts) ≡ map (child_by rule assets) ts
children_are rule assets [] = refl
children_are rule assets (t ∷ ts) = ap (λ cs. child_by rule assets t ∷ cs) (children_are rule assets ts)

-- ---- thresholds

cheapest_are : (assets : Assets) (ts : List model.Tree) → cheapest_children assets (trees_of ts) ≡ map (child_of_tree assets) ts
cheapest_are assets [] = refl
cheapest_are assets (t ∷ ts) = ap (λ cs. child_of_tree assets t ∷ cs) (cheapest_are assets ts)

cheapest_thresh : (assets : Assets) (k : ℕ) (ts : List model.Tree) → cheapest_of assets (model.thresh k (trees_of ts)) ≡ choose (map (child_of_tree assets) ts) k
cheapest_thresh assets k ts = thresh_choose assets (trees_of ts) k ∙ ap (λ cs. choose cs k) (cheapest_are assets ts)

-- the choice of a threshold, by the recursion over its children
abbrev pub strict_choice : Assets → model.Trees → ℕ → Option Stack
strict_choice assets xs k = choice (strict_children assets xs) (free_children assets xs) (count xs) k

-- the first child and the others
pub choice_more : (assets : Assets) (x : model.Tree) (xs : model.Trees) (k : ℕ) →
    strict_choice assets (model.more x xs) k ≡ counted (child_by Strict assets x).sat (child_by Strict assets x).dsat (strict_choice assets xs) k
choice_more assets x xs k =
    let c : Child = record { sat = strict_of assets x; dsat = dissatisfaction x } in
    let wanted = is_some (free assets x) in
    ap (λ n. choice (c ∷ strict_children assets xs) (wanted ∷ free_children assets xs) n k) (add-one (count xs)) ∙
    choice_counted c (strict_children assets xs) wanted (free_children assets xs) (count xs) k

strict_choose : (assets : Assets) (ts : List model.Tree) (k : ℕ) → strict_choice assets (trees_of ts) k ≡ choose (map (child_by Strict assets) ts) k
strict_choose assets [] zero = refl
strict_choose assets [] (suc k) = refl
strict_choose assets (t ∷ ts) k =
    let c = child_by Strict assets t in
    choice_more assets t (trees_of ts) k ∙
    counted_same c.sat c.dsat (strict_choice assets (trees_of ts)) (choose (map (child_by Strict assets) ts)) (strict_choose assets ts) k

pub thresh_by : (rule : Rule) (assets : Assets) (k : ℕ) (ts : List model.Tree) → stack_by rule assets (model.thresh k (trees_of ts)) ≡ chosen (map (child_by rule assets) ts) k
thresh_by Cheapest assets k ts = cheapest_thresh assets k ts ∙ sym (chosen_is (map (child_by Cheapest assets) ts) k)
thresh_by Strict assets k ts = strict_choose assets ts k ∙ sym (chosen_is (map (child_by Strict assets) ts) k)

-- ---- what needs no signature

free_cheapest : (assets : Assets) (ts : List model.Tree) → (forced (costs_of (map (free_child_by Cheapest assets) ts)) ≡ 0) × (over_free one 0 (costs_of (map (free_child_by Cheapest assets) ts)) ≡ 0)
free_cheapest assets ts = (go ts, go_free 0 ts)
  where
    go : (us : List model.Tree) → forced (costs_of (map (free_child_by Cheapest assets) us)) ≡ 0
    go [] = refl
    go (u ∷ us) = let h = go us in omega (arith, h)

    go_free : (i : ℕ) (us : List model.Tree) → over_free one i (costs_of (map (free_child_by Cheapest assets) us)) ≡ 0
    go_free i [] = refl
    go_free i (u ∷ us) = let h = go_free (suc i) us in omega (arith, h)

free_chosen : (rule : Rule) (assets : Assets) (k : ℕ) (ts : List model.Tree) → 1 ≤ k → is_some (choose (map (free_child_by rule assets) ts) k)
    ≡ is_some (free_by rule assets (model.thresh k (trees_of ts)))
free_chosen Cheapest assets k ts some =
    let f = free_cheapest assets ts in
    ap is_some (none_chosen (map (free_child_by Cheapest assets) ts) k (inr (inr (omega (arith, f.0, f.1, some)))))
free_chosen Strict assets k ts some = ap is_some (sym (cheapest_thresh (unsigned assets) k ts))

pub free_thresh : (rule : Rule) (assets : Assets) (k : ℕ) (ts : List model.Tree) (kinds : KindCounts) → 1 ≤ k → Counts (costs_of (map (free_child_by rule assets) ts)) kinds
    → allows kinds k ≡ is_some (free_by rule assets (model.thresh k (trees_of ts)))
free_thresh rule assets k ts kinds some told =
    let cs = map (free_child_by rule assets) ts in
    allowed (costs_of cs) kinds k told ∙ some_chosen cs k ∙ free_chosen rule assets k ts some

unsigned_keys : (assets : Assets) (keys : List Key) → (forced (costs_of (children_of_keys (unsigned assets) keys)) ≡ 0) × (over_free one 0 (costs_of (children_of_keys (unsigned assets) keys)) ≡ 0)
unsigned_keys assets keys = (go keys, go_free 0 keys)
  where
    go : (us : List Key) → forced (costs_of (children_of_keys (unsigned assets) us)) ≡ 0
    go [] = refl
    go (u ∷ us) = let h = go us in omega (arith, h)

    go_free : (i : ℕ) (us : List Key) → over_free one i (costs_of (children_of_keys (unsigned assets) us)) ≡ 0
    go_free i [] = refl
    go_free i (u ∷ us) = let h = go_free (suc i) us in omega (arith, h)

pub free_multi : (rule : Rule) (assets : Assets) (k : ℕ) (keys : List Key) → 1 ≤ k → false ≡ is_some (free_by rule assets (model.multi k keys))
free_multi Cheapest assets k keys some = refl
free_multi Strict assets k keys some =
    let f = unsigned_keys assets keys in
    let none : chosen (children_of_keys (unsigned assets) keys) k ≡ None =
    cannot_chosen (children_of_keys (unsigned assets) keys) k (inr (inr (omega (arith, f.0, f.1, some))))
    in
    let signed : signatures (unsigned assets) k keys ≡ None = signatures_are (unsigned assets) k keys ∙ ap (option_map reverse) none in
    sym (ap (λ o. is_some (both (Some (EMPTY ∷ [])) o)) signed)

-- and so are keys
pub multi_by : (rule : Rule) (assets : Assets) (k : ℕ) (keys : List Key) → stack_by rule assets (model.multi k keys) ≡ cheapest_of assets (model.multi k keys)
multi_by Cheapest assets k keys = refl
multi_by Strict assets k keys = refl

-- the children of a threshold as the code has them
pub thresh_stack : (rule : Rule) (assets : Assets) (k : ℕ) (xs : List Tree) → stack_by rule assets (model.thresh k (shapes xs)) ≡ chosen (children_by rule assets (shapes xs)) k
thresh_stack rule assets k xs = thresh_by rule assets k (map shape xs) ∙ ap (λ cs. chosen cs k) (sym (children_are rule assets (map shape xs)))

pub children_shapes : (rule : Rule) (assets : Assets) (xs : List Tree) → children_by rule assets (shapes xs) ≡ map (λ x. child_by rule assets (shape x)) xs
children_shapes rule assets [] = refl
children_shapes rule assets (x ∷ xs) = ap (λ cs. child_by rule assets (shape x) ∷ cs) (children_shapes rule assets xs)

-- a threshold and a `multi` that have a type want one at least
one_of : (k count : ℕ) → IsTrue (nat_le 1 k && nat_le k count) → 1 ≤ k
one_of k count h = grind (arith, nat_tests)

one_of_keys : (k count : ℕ) → IsTrue (nat_le 1 k && nat_le k count && nat_le count 20) → 1 ≤ k
one_of_keys k count h = grind (arith, nat_tests)

pub thresh_some : (k : ℕ) (xs : model.Trees) → IsTyped (model.thresh k xs) → 1 ≤ k
unfolding thresh_row
thresh_some k xs typed = one_of k (length (types_of xs)) typed.1.0

pub multi_some : (k : ℕ) (keys : List Key) → IsTyped (model.multi k keys) → 1 ≤ k
unfolding multi_row
multi_some k keys typed = one_of_keys k (length keys) typed.0
