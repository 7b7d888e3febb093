-- A child of a threshold more.
use Rattle.std.proofs.Common.{◌≡◌, ℕ, ◌-◌, ◌≤◌, Bool, true, false, List, [], ◌∷◌, ◌++◌, length, map, take, drop, Option, Some, None, is_some, refl, sym, ◌∙◌, ap, subst, arith, if◌then◌else◌}
use Rattle.std.specs.Option.{option_map}
use Rattle.std.proofs.lemmas.List.{map-append}
use borrow.Rule.Slice.PartMut.{put_mid}
use Rattle.def_machine.specs.Stacks.{Stack}
use Rattle.def_tree.specs.Tree as model
use Rattle.def_assets.specs.Assets.{Assets}
use Rattle.def_choice.specs.Cheapest.{Child, all_dissatisfied}
use Rattle.def_choice.specs.Dissatisfaction.{dissatisfaction}
use Rattle.ms_tree.specs.Shape.{trees_of}
use Rattle.ms_choice.specs.declared.slot.Slot.{Slot}
use Rattle.def_choice.specs.declared.choice.Choice.{Choice as Rule}
use Rattle.ms_choice.specs.declared.children.Costs.{Costs}
use Rattle.ms_choice.specs.declared.choice.Choice.{Choice}
use Rattle.ms_chosen.specs.declared.table.Weighed.{Weighed}
use Rattle.ms_choice.specs.declared.kinds.KindCounts.{KindCounts}
use Rattle.ms_choice.specs.Kinds.{with_child, Counts}
use Rattle.ms_choice.proofs.Allowed.{counts_push as kinds_push}
use Rattle.ms_chosen.specs.Scaffolding.Costs.{weight_of, costs_of, costs_of_child, sum_of}
use Rattle.ms_chosen.specs.Scaffolding.Choice.{chosen}
use Rattle.ms_chosen.specs.Rule.{stack_by, free_by, child_by, free_child_by}
use Rattle.ms_chosen.specs.Scaffolding.Table.{IsWeighed, IsFound}
use Rattle.ms_chosen.specs.declared.table.Children.{Children}
use Rattle.ms_choice.specs.declared.children.Number.TheVariants.{First}
use Rattle.ms_chosen.specs.Scaffolding.Count.{AreFew, AreTold}
use Rattle.ms_work.proofs.Children.{length_behind}
use Rattle.ms_choice.proofs.Tallies.{told_written as tally_written, fits_written}
use Rattle.ms_chosen.proofs.Weights.{weight_of-both}

pub some_weight : (o : Option Stack) → is_some (weight_of o) ≡ is_some o
some_weight None = refl
some_weight (Some v) = refl

weight-if : (b : Bool) (o : Option Stack) → (if b then None else weight_of o) ≡ weight_of (if b then None else o)
weight-if true o = refl
weight-if false o = refl

-- a child that was weighed
pub child_costs : (rule : Rule) (assets : Assets) (t : model.Tree) (w : Weighed) (c : Costs) → IsWeighed rule assets t w → c.sat ≡ w.costs.sat → c.dsat ≡ (if w.free then None else w.costs.dsat)
    → c ≡ costs_of_child (child_by rule assets t)
child_costs rule assets t w c h sat dsat =
    let left : c.dsat ≡ weight_of (if is_some (free_by rule assets t) then None else dissatisfaction t) =
    dsat ∙ ap (λ b. if b then None else w.costs.dsat) h.free ∙ ap (λ d. if is_some (free_by rule assets t) then None else d) h.dsat ∙
    weight-if (is_some (free_by rule assets t)) (dissatisfaction t)
    in
    let right : c.sat ≡ weight_of (stack_by rule assets t) = sat ∙ h.sat in
    λ i. record { sat = right i; dsat = left i }

pub costs_push : (f : model.Tree → Child) (ts : List model.Tree) (t : model.Tree) (c : Costs) → c ≡ costs_of_child (f t) → costs_of (map f ts) ++ c ∷ [] ≡ costs_of (map f (ts ++ t ∷ []))
costs_push f ts t c is =
    ap (λ d. costs_of (map f ts) ++ d ∷ []) is ∙ sym (map-append costs_of_child (map f ts) (f t ∷ [])) ∙ sym (ap costs_of (map-append f ts (t ∷ [])))

-- ---- what is counted

pub counts_push : (rule : Rule) (assets : Assets) (ts : List model.Tree) (t : model.Tree) (w : Weighed) (kinds : KindCounts)
    → Counts (costs_of (map (free_child_by rule assets) ts)) kinds → IsWeighed rule assets t w
    → Counts (costs_of (map (free_child_by rule assets) (ts ++ t ∷ []))) (with_child kinds w.free (is_some w.costs.dsat))
counts_push rule assets ts t w kinds told h =
    let f = free_child_by rule assets in
    let c : Costs = costs_of_child (f t) in
    let all = kinds_push (costs_of (map f ts)) c kinds told in
    let more : costs_of (map f ts) ++ c ∷ [] ≡ costs_of (map f (ts ++ t ∷ [])) = costs_push f ts t c refl in
    let sat : is_some c.sat ≡ w.free = some_weight (free_by rule assets t) ∙ sym h.free in
    let dsat : is_some c.dsat ≡ is_some w.costs.dsat = sym (ap is_some h.dsat) in
    let same : with_child kinds (is_some c.sat) (is_some c.dsat)
    ≡ with_child kinds w.free (is_some w.costs.dsat) = ap (λ b. with_child kinds b (is_some c.dsat)) sat ∙ ap (with_child kinds w.free) dsat in
    subst (λ cs. Counts cs (with_child kinds w.free (is_some w.costs.dsat))) more (subst (Counts (costs_of (map f ts) ++ c ∷ [])) same all)

-- ---- dissatisfactions

sum_turned : (a b c : Option ℕ) → sum_of (sum_of a b) c ≡ sum_of (sum_of a c) b
sum_turned None b c = refl
sum_turned (Some a) None None = refl
sum_turned (Some a) None (Some c) = refl
sum_turned (Some a) (Some b) None = refl
sum_turned (Some a) (Some b) (Some c) = ap Some (omega arith)

pub dsat_push : (ts : List model.Tree) (t : model.Tree) → weight_of (all_dissatisfied (trees_of (ts ++ t ∷ []))) ≡ sum_of (weight_of (all_dissatisfied (trees_of ts))) (weight_of (dissatisfaction t))
dsat_push [] t = weight_of-both (Some []) (dissatisfaction t)
dsat_push (s ∷ ts) t =
    weight_of-both (all_dissatisfied (trees_of (ts ++ t ∷ []))) (dissatisfaction s) ∙
    ap (λ n. sum_of n (weight_of (dissatisfaction s))) (dsat_push ts t) ∙
    sum_turned (weight_of (all_dissatisfied (trees_of ts))) (weight_of (dissatisfaction t)) (weight_of (dissatisfaction s)) ∙
    sym (ap (λ n. sum_of n (weight_of (dissatisfaction t))) (weight_of-both (all_dissatisfied (trees_of ts)) (dissatisfaction s)))

-- ---- the choice that was found

pub found_weight : (costs : List Costs) (cs : List Child) (k : ℕ) (o : Option Choice) → IsFound costs cs k o → option_map (λ (c : Choice). c.weight) o ≡ weight_of (chosen cs k)
found_weight costs cs k None none = sym (ap weight_of none)
found_weight costs cs k (Some choice) some = sym some.weight

-- ---- what is written behind the slots of the free children changes nothing

pub few_written : (c : Children) (slots written : List Slot) → length written ≡ length (take (length slots - c.tally.free) (drop c.tally.free slots)) → AreFew c slots
    → AreFew c (put_mid c.tally.free (length slots - c.tally.free) slots written)
few_written c slots written same few =
    record {
      tally = fits_written c.tally slots written (length slots - c.tally.free) (length_behind c.tally.free slots written few.tally.room same) few.tally;
      forced = few.forced;
      stuck = few.stuck;
      free = few.free;
      dsat = few.dsat;
    }

pub told_written : (rule : Rule) (assets : Assets) (ts : List model.Tree) (c : Children) (slots written : List Slot) (n : ℕ) → c.tally.free ≤ length slots → AreTold rule assets ts c slots
    → AreTold rule assets ts c (put_mid c.tally.free n slots written)
told_written rule assets ts c slots written n room told = record {
  tally = tally_written First (costs_of (map (child_by rule assets) ts)) c.tally slots written n room told.tally;
  free = told.free;
  dsat = told.dsat;
}
