-- The children of a threshold: as many can be satisfied, the others dissatisfied, as have true policies.
use Rattle.std.proofs.Common.{◌≡◌, ℕ, zero, suc, ◌≤◌, Bool, true, false, List, ◌∷◌, refl, ap, inl, inr, arith}
use Rattle.def_machine.specs.Stacks.{Stack}
use Rattle.def_satisfaction.specs.StackSet.{StackSet}
use Rattle.def_satisfaction.specs.Rows.{Row, PartsOf}
use Rattle.def_choice.specs.Tight.{HasOne}
use Rattle.def_policy.specs.Truth.{how_many}
use Rattle.ms_row_laws.proofs.UniqueDissatisfaction.{one_both}
use Rattle.ms_policy_laws.proofs.Says.{Says}

-- one more child is satisfied where it must be, and else dissatisfied
pub one_more : (b : Bool) (bs : List Bool) (x : Row) (others : ℕ → StackSet) → Says b x.sat → HasOne x.dsat →
    ((m : ℕ) → m ≤ how_many bs → HasOne (others m)) → (n : ℕ) → n ≤ how_many (b ∷ bs) → HasOne (PartsOf x others n)
one_more true bs x others here d some zero h =
    let one = one_both (others 0) x.dsat (some 0 (omega arith)) d in
    (one.0, inr one.1)
one_more true bs x others here d some (suc n) h =
    let one = one_both (others n) x.sat (some n (omega arith)) (here.to refl) in
    (one.0, inl (n, refl, one.1))
one_more false bs x others here d some n h =
    let one = one_both (others n) x.dsat (some n (omega arith)) d in
    (one.0, inr one.1)

-- no more children are satisfied than have true policies
pub no_more : (b : Bool) (bs : List Bool) (x : Row) (others : ℕ → StackSet) → Says b x.sat →
    ((m : ℕ) (w : Stack) → others m w → m ≤ how_many bs) → (n : ℕ) (w : Stack) → PartsOf x others n w → n ≤ how_many (b ∷ bs)
no_more b bs x others here few n w (inl p) =
    let counted : how_many (b ∷ bs) ≡ how_many (true ∷ bs) = ap (λ c. how_many (c ∷ bs)) (here.from (p.2.1, p.2.3)) in
    let rest = few p.0 p.2.0 p.2.2 in
    let more = p.1 in
    omega arith
no_more b bs x others here few n w (inr p) = let rest = few n p.0 p.2 in omega arith
