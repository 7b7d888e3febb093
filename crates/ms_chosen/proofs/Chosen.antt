-- The choice among the children of a threshold by a recursion over them.
use Rattle.std.proofs.Common.{◌≡◌, ℕ, zero, suc, List, [], ◌∷◌, length, Option, Some, None, refl, ◌∙◌, ap}
use Rattle.std.specs.Prelude.{ℤ}
use Rattle.def_machine.specs.Stacks.{Stack}
use Rattle.def_choice.specs.Least.{both, lighter}
use Rattle.def_choice.specs.Cheapest.{Child}
use Rattle.def_choice.proofs.Counted.{counted, least_counted}
use Rattle.ms_chosen.specs.Scaffolding.Choice.{chosen}

-- the choice by a recursion over the children
abbrev pub choose : List Child → ℕ → Option Stack
choose [] zero = Some []
choose [] (suc k) = None
choose (c ∷ cs) k = counted c.sat c.dsat (choose cs) k

pub counted_same : (sat dsat : Option Stack) (these those : ℕ → Option Stack) → ((k : ℕ) → these k ≡ those k) → (k : ℕ) → counted sat dsat these k ≡ counted sat dsat those k
counted_same sat dsat these those same zero = ap (λ o. both o dsat) (same zero)
counted_same sat dsat these those same (suc k) =
    ap (λ o. lighter (both o sat) (both (these (suc k)) dsat)) (same k) ∙
    ap (λ o. lighter (both (those k) sat) (both o dsat)) (same (suc k))

pub chosen_is : (cs : List Child) (k : ℕ) → chosen cs k ≡ choose cs k
chosen_is [] zero = refl
chosen_is [] (suc k) = refl
chosen_is (c ∷ cs) k = least_counted c cs (length cs) k ∙ counted_same c.sat c.dsat (chosen cs) (choose cs) (chosen_is cs) k

abbrev pub child : (sat dsat : Option Stack) → Child
child s d = record { sat = s; dsat = d }

-- 1 for a free child
abbrev pub one : ℤ → ℕ → ℕ
one difference place = 1
