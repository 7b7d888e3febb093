-- What joined stacks, and the lighter of two, weigh.
use Rattle.std.proofs.Common.{◌≡◌, ℕ, nat_lt, min, Bool, true, false, [], ◌∷◌, Option, Some, None, refl, ap, arith, if◌then◌else◌}
use Rattle.std.proofs.lemmas.Bool.Decides.{nat_tests}
use Rattle.def_machine.specs.Stacks.{Stack}
use Rattle.def_script.specs.Witness.{weight}
use Rattle.def_choice.specs.Least.{both, lighter, least}
use Rattle.def_choice.proofs.Weights.{weight-append}
use Rattle.def_choice.proofs.Best.{lighter-none}
use Rattle.ms_chosen.specs.Scaffolding.Costs.{sum_of, lesser, weight_of}

pub weight_of-both : (below above : Option Stack) → weight_of (both below above) ≡ sum_of (weight_of below) (weight_of above)
weight_of-both None above = refl
weight_of-both (Some below) None = refl
weight_of-both (Some below) (Some above) = ap Some (omega (arith, weight-append above below))

lighter-weight : (former latter : Stack) (test : Bool) → nat_lt (weight latter) (weight former) ≡ test →
    weight_of (if test then Some latter else Some former) ≡ Some (min (weight former) (weight latter))
lighter-weight former latter true h = ap Some (grind (arith, nat_tests))
lighter-weight former latter false h = ap Some (grind (arith, nat_tests))

pub weight_of-lighter : (former latter : Option Stack) → weight_of (lighter former latter) ≡ lesser (weight_of former) (weight_of latter)
weight_of-lighter None latter = refl
weight_of-lighter (Some former) None = refl
weight_of-lighter (Some former) (Some latter) = lighter-weight former latter (nat_lt (weight latter) (weight former)) refl

-- the same of weights that are known
pub both_weighs : (p q : Option ℕ) (below above : Option Stack) → p ≡ weight_of below → q ≡ weight_of above → sum_of p q ≡ weight_of (both below above)
both_weighs p q below above e f = let h = weight_of-both below above in cc

pub least_weighs : (p q : Option ℕ) (former latter : Option Stack) → p ≡ weight_of former → q ≡ weight_of latter → lesser p q ≡ weight_of (least (former ∷ latter ∷ []))
least_weighs p q former latter e f =
    let h = weight_of-lighter former (lighter latter None) in
    let i : weight_of (lighter latter None) ≡ weight_of latter = ap weight_of (lighter-none latter) in
    cc
