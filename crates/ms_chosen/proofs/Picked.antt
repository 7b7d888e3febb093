-- The choice by the weights of the children's stacks is the choice of these stacks.
use Rattle.std.proofs.Common.{◌≡◌, ℕ, zero, suc, nat_lt, Bool, true, false, List, [], ◌∷◌, Option, Some, None, is_some, refl, sym, ◌∙◌, ap, subst, arith, if◌then◌else◌}
use Rattle.std.specs.Prelude.{⊤}
use Rattle.std.specs.Option.{option_map}
use Rattle.def_machine.specs.Stacks.{Stack}
use Rattle.def_script.specs.Witness.{weight}
use Rattle.def_choice.specs.Least.{both, lighter}
use Rattle.def_choice.specs.Cheapest.{Child, stack_of}
use Rattle.def_choice.proofs.Weights.{weight-append}
use Rattle.ms_choice.specs.declared.children.Costs.{Costs}
use Rattle.ms_choice.specs.declared.choice.Choice.{Choice}
use Rattle.ms_choice.specs.Choice.{Pick, lightest, lighter as lighter_pick}
use Rattle.ms_choice.specs.Marks.{picked, set_by}
use Rattle.ms_choice.proofs.Picks.{extend, choose as choose_pick, lightest_is}
use Rattle.ms_choice.proofs.Tallies.{no_choice}
use Rattle.ms_chosen.specs.Scaffolding.Costs.{weight_of, costs_of}
use Rattle.ms_chosen.specs.Scaffolding.Choice.{chosen, CannotChoose}
use Rattle.ms_chosen.specs.Scaffolding.Table.{IsFound}
use Rattle.ms_chosen.proofs.Chosen.{choose, chosen_is}

-- the stack is that of the choice
abbrev pub IsOf : List Child → Option Stack → Option Pick → Type 0
IsOf cs None None = ⊤
IsOf cs None (Some pick) = ⊥
IsOf cs (Some stack) None = ⊥
IsOf cs (Some stack) (Some pick) = (weight stack ≡ pick.0) × (stack_of cs pick.1 ≡ Some stack)

of_part : (c : Child) (cs : List Child) (satisfied : Bool) (part : Option Stack) → (if satisfied then c.sat else c.dsat) ≡ part
    → (o : Option Stack) (p : Option Pick) → IsOf cs o p → IsOf (c ∷ cs) (both o part) (extend satisfied (weight_of part) p)
of_part c cs satisfied None is None p h = tt
of_part c cs satisfied None is (Some v) p h = tt
of_part c cs satisfied (Some w) is None None h = tt
of_part c cs satisfied (Some w) is None (Some p) h = absurd h
of_part c cs satisfied (Some w) is (Some v) None h = absurd h
of_part c cs satisfied (Some w) is (Some v) (Some p) h =
    (omega (arith, weight-append w v, h.0), ap (λ o. both o (if satisfied then c.sat else c.dsat)) h.1 ∙ ap (both (Some v)) is)

of_lighter : (cs : List Child) (o u : Option Stack) (p q : Option Pick) → IsOf cs o p → IsOf cs u q → IsOf cs (lighter o u) (lighter_pick p q)
of_lighter cs None u None q h k = k
of_lighter cs None u (Some p) q h k = absurd h
of_lighter cs (Some v) u None q h k = absurd h
of_lighter cs (Some v) None (Some p) None h k = h
of_lighter cs (Some v) None (Some p) (Some q) h k = absurd k
of_lighter cs (Some v) (Some w) (Some p) None h k = absurd k
of_lighter cs (Some v) (Some w) (Some p) (Some q) h k =
    let same : nat_lt (weight w) (weight v) ≡ nat_lt q.0 p.0 = ap (λ n. nat_lt n (weight v)) k.0 ∙ ap (nat_lt q.0) h.0 in
    subst (λ test. IsOf cs (if nat_lt (weight w) (weight v) then Some w else Some v) (if test then Some q else Some p)) same (go (nat_lt (weight w) (weight v)))
  where
    go : (test : Bool) → IsOf cs (if test then Some w else Some v) (if test then Some q else Some p)
    go true = k
    go false = h

pub chosen_picked : (cs : List Child) (k : ℕ) → IsOf cs (choose cs k) (choose_pick (costs_of cs) k)
chosen_picked [] zero = (refl, refl)
chosen_picked [] (suc k) = tt
chosen_picked (c ∷ cs) zero = of_part c cs false c.dsat refl (choose cs zero) (choose_pick (costs_of cs) zero) (chosen_picked cs zero)
chosen_picked (c ∷ cs) (suc k) =
    of_lighter (c ∷ cs) _ _ _ _
    (of_part c cs true c.sat refl (choose cs k) (choose_pick (costs_of cs) k) (chosen_picked cs k))
    (of_part c cs false c.dsat refl (choose cs (suc k)) (choose_pick (costs_of cs) (suc k)) (chosen_picked cs (suc k)))

weight_of_pick : (cs : List Child) (o : Option Stack) (p : Option Pick) → IsOf cs o p → option_map (λ (pick : Pick). pick.0) p ≡ weight_of o
weight_of_pick cs None None h = refl
weight_of_pick cs None (Some p) h = absurd h
weight_of_pick cs (Some v) None h = absurd h
weight_of_pick cs (Some v) (Some p) h = ap Some (sym h.0)

some_of : (cs : List Child) (o : Option Stack) (p : Option Pick) → IsOf cs o p → is_some p ≡ is_some o
some_of cs None None h = refl
some_of cs None (Some p) h = absurd h
some_of cs (Some v) None h = absurd h
some_of cs (Some v) (Some p) h = refl

pub some_chosen : (cs : List Child) (k : ℕ) → is_some (lightest (costs_of cs) k) ≡ is_some (choose cs k)
some_chosen cs k = ap is_some (lightest_is (costs_of cs) k) ∙ some_of cs (choose cs k) (choose_pick (costs_of cs) k) (chosen_picked cs k)

pub chosen_weight : (cs : List Child) (k : ℕ) → option_map (λ (pick : Pick). pick.0) (lightest (costs_of cs) k) ≡ weight_of (chosen cs k)
chosen_weight cs k =
    ap (option_map (λ (pick : Pick). pick.0)) (lightest_is (costs_of cs) k) ∙
    weight_of_pick cs (choose cs k) (choose_pick (costs_of cs) k) (chosen_picked cs k) ∙
    sym (ap weight_of (chosen_is cs k))

pub choice_weight : (cs : List Costs) (o : Option Choice) → option_map (λ (c : Choice). c.weight) o ≡ option_map (λ (pick : Pick). pick.0) (picked cs o)
choice_weight cs None = refl
choice_weight cs (Some c) = refl

-- so what was found by the weights is the choice
pub found_of : (costs : List Costs) (cs : List Child) (k : ℕ) (o : Option Choice) → IsOf cs (chosen cs k) (picked costs o) → IsFound costs cs k o
found_of costs cs k None h = go (chosen cs k) h
  where
    go : (o : Option Stack) → IsOf cs o None → o ≡ None
    go None h = refl
    go (Some v) h = absurd h
found_of costs cs k (Some c) h = record { weight = (go (chosen cs k) h).0; set = (go (chosen cs k) h).1 }
  where
    go : (o : Option Stack) → IsOf cs o (picked costs (Some c)) → (weight_of o ≡ Some c.weight) × (o ≡ stack_of cs (set_by c.last 0 costs))
    go None h = absurd h
    go (Some v) h = (ap Some h.0, sym h.1)

pub found_choice : (cs : List Child) (k : ℕ) (o : Option Choice) → picked (costs_of cs) o ≡ lightest (costs_of cs) k → IsFound (costs_of cs) cs k o
found_choice cs k o is =
    found_of (costs_of cs) cs k o
    (subst (λ s. IsOf cs s (picked (costs_of cs) o)) (sym (chosen_is cs k))
    (subst (IsOf cs (choose cs k)) (sym (is ∙ lightest_is (costs_of cs) k)) (chosen_picked cs k)))

-- where there is no choice of k
pub none_chosen : (cs : List Child) (k : ℕ) → CannotChoose (costs_of cs) k → choose cs k ≡ None
none_chosen cs k out = go (choose cs k) (subst (IsOf cs (choose cs k)) (no_choice (costs_of cs) k out) (chosen_picked cs k))
  where
    go : (o : Option Stack) → IsOf cs o None → o ≡ None
    go None h = refl
    go (Some v) h = absurd h

pub cannot_chosen : (cs : List Child) (k : ℕ) → CannotChoose (costs_of cs) k → chosen cs k ≡ None
cannot_chosen cs k out = chosen_is cs k ∙ none_chosen cs k out
