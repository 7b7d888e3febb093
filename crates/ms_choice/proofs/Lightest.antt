-- What a choice of so many weighs at least, against a mark a - b.
use Rattle.std.proofs.Common.{◌≡◌, ℕ, zero, suc, ◌+◌, ◌-◌, ◌*◌, ◌≤◌, true, false, List, [], ◌∷◌, Option, Some, arith}
use Rattle.std.specs.Prelude.{ℤ, pos, ◌-ℤ◌}
use Rattle.std.proofs.lemmas.Int.{ints}
use borrow.Author.Differences.{up, down}
use Rattle.ms_choice.specs.declared.children.Costs.{Costs}
use Rattle.ms_choice.specs.Choice.{Pick, lighter}
use Rattle.ms_choice.specs.Tally.{forced, base, over_free}
use Rattle.ms_choice.proofs.Picks.{extend, choose}
use Rattle.ms_choice.proofs.Greatest.{Whenever, child}

pub whenever : (o : Option Pick) (P : Pick → Type 0) → Whenever o P → (v : Pick) → o ≡ Some v → P v
whenever o P h v e = rw e at h

-- how far a difference is below the mark a - b
abbrev pub below : (a b : ℕ) → ℤ → ℕ → ℕ
below a b difference place = (down difference + a) - (up difference + b)

below_is : (a b s d : ℕ) (place : ℕ) → below a b (pos s -ℤ pos d) place ≡ (d + a) - (s + b)
below_is a b s d place = omega (arith, ints)

module _ (a b : ℕ) where
  -- no choice of k weighs less than with those below the mark
  pub record Above (i : ℕ) (cs : List Costs) (k n : ℕ) : Type 0 where
    pub enough : forced cs ≤ k
    pub least : base cs + k * a + forced cs * b ≤ n + over_free (below a b) i cs + k * b + forced cs * a

  dissatisfied : (s d : Option ℕ) (i : ℕ) (cs : List Costs) (k : ℕ) (o : Option Pick)
      → Whenever o (λ p. Above (suc i) cs k p.0) → Whenever (extend false d o) (λ p. Above i (child s d ∷ cs) k p.0)
  dissatisfied s d i cs k o h = grind arith

  satisfied : (s d : Option ℕ) (i : ℕ) (cs : List Costs) (k : ℕ) (o : Option Pick)
      → Whenever o (λ p. Above (suc i) cs k p.0) → Whenever (extend true s o) (λ p. Above i (child s d ∷ cs) (suc k) p.0)
  satisfied s d i cs k o h = grind (arith, below_is)

  of_lighter : (P : Pick → Type 0) (o p : Option Pick) → Whenever o P → Whenever p P → Whenever (lighter o p) P
  of_lighter P o p h g = grind arith

  pub choice_above : (i : ℕ) (cs : List Costs) (k : ℕ) → Whenever (choose cs k) (λ p. Above i cs k p.0)
  choice_above i [] zero = record { enough = omega arith; least = omega arith }
  choice_above i [] (suc k) = tt
  choice_above i (c ∷ cs) zero = dissatisfied c.sat c.dsat i cs zero (choose cs zero) (choice_above (suc i) cs zero)
  choice_above i (c ∷ cs) (suc k) =
      of_lighter (λ p. Above i (c ∷ cs) (suc k) p.0) (extend true c.sat (choose cs k)) (extend false c.dsat (choose cs (suc k)))
      (satisfied c.sat c.dsat i cs k (choose cs k) (choice_above (suc i) cs k))
      (dissatisfied c.sat c.dsat i cs (suc k) (choose cs (suc k)) (choice_above (suc i) cs (suc k)))
