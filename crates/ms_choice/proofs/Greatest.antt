-- What a choice of so many takes at most, by a mark a - b: the children whose difference is above it are
-- satisfied, and of those at it as many as are wanted.
use Rattle.std.proofs.Common.{◌≡◌, ℕ, zero, suc, ◌+◌, ◌-◌, ◌*◌, ◌<◌, ◌≤◌, ◌⊎◌, List, [], ◌∷◌, Option, Some, None, refl, subst, arith}
use Rattle.std.specs.Prelude.{⊤, ℤ, pos, ◌-ℤ◌}
use Rattle.std.proofs.lemmas.Int.{ints}
use borrow.Author.Differences.{up, down}
use Rattle.ms_choice.specs.declared.children.Costs.{Costs}
use Rattle.ms_choice.specs.Choice.{heavier}
use Rattle.ms_choice.specs.Sums.{above, is_above, is_reached}
use Rattle.ms_choice.specs.Tally.{free_by, forced, stuck, base, over_free}
use Rattle.ms_choice.proofs.Picks.{added, most_chosen}

-- a difference of natural numbers against the mark
above_is : (a b s d : ℕ) → above a b (pos s -ℤ pos d) ≡ (s + b) - (d + a)
above_is a b s d = omega (arith, ints)

-- a fact of a choice, where there is one
abbrev pub Whenever : {X : Type 0} → Option X → (X → Type 0) → Type 0
Whenever None P = ⊤
Whenever (Some x) P = P x

-- there is one, and the fact holds of it
abbrev pub Exactly : Option ℕ → (ℕ → Type 0) → Type 0
Exactly None P = ⊥
Exactly (Some n) P = P n

abbrev pub child : (sat dsat : Option ℕ) → Costs
child s d = record { sat = s; dsat = d }

-- over the free children, whatever their places
abbrev pub all_free : (ℤ → ℕ) → (place : ℕ) → List Costs → ℕ
all_free f = over_free (λ difference place. f difference)

module _ (a b : ℕ) where
  -- no choice of k takes more than those above the mark
  pub record Below (i : ℕ) (cs : List Costs) (k n : ℕ) : Type 0 where
    pub stuck : stuck cs ≡ 0
    pub enough : forced cs ≤ k
    pub room : k ≤ forced cs + all_free (λ z. 1) i cs
    pub most : n + k * b + forced cs * a ≤ base cs + all_free (above a b) i cs + k * a + forced cs * b

  dissatisfied : (s d : Option ℕ) (i : ℕ) (cs : List Costs) (k : ℕ) (o : Option ℕ)
      → Whenever o (λ n. Below (suc i) cs k n) → Whenever (added d o) (λ n. Below i (child s d ∷ cs) k n)
  dissatisfied s d i cs k o h = grind arith

  satisfied : (s d : Option ℕ) (i : ℕ) (cs : List Costs) (k : ℕ) (o : Option ℕ)
      → Whenever o (λ n. Below (suc i) cs k n) → Whenever (added s o) (λ n. Below i (child s d ∷ cs) (suc k) n)
  satisfied s d i cs k o h = grind (arith, above_is)

  of_heavier : (i : ℕ) (cs : List Costs) (k : ℕ) (m n : Option ℕ)
      → Whenever m (λ t. Below i cs k t) → Whenever n (λ t. Below i cs k t) → Whenever (heavier m n) (λ t. Below i cs k t)
  of_heavier i cs k m n p q = grind arith

  pub chosen_below : (i : ℕ) (cs : List Costs) (k : ℕ) → Whenever (most_chosen cs k) (λ n. Below i cs k n)
  chosen_below i [] zero = record { stuck = refl; enough = omega arith; room = omega arith; most = omega arith }
  chosen_below i [] (suc k) = tt
  chosen_below i (c ∷ cs) zero = dissatisfied c.sat c.dsat i cs zero (most_chosen cs zero) (chosen_below (suc i) cs zero)
  chosen_below i (c ∷ cs) (suc k) =
      of_heavier i (c ∷ cs) (suc k) (added c.sat (most_chosen cs k)) (added c.dsat (most_chosen cs (suc k)))
      (satisfied c.sat c.dsat i cs k (most_chosen cs k) (chosen_below (suc i) cs k))
      (dissatisfied c.sat c.dsat i cs (suc k) (most_chosen cs (suc k)) (chosen_below (suc i) cs (suc k)))

  -- there is a choice that takes at least n - m
  abbrev pub AtLeast : Option ℕ → (m n : ℕ) → Type 0
  AtLeast None m n = ⊥
  AtLeast (Some t) m n = n ≤ t + m

  -- the choice by the mark
  abbrev pub Reaches : ℕ → List Costs → ℕ → Option ℕ → Type 0
  Reaches i cs k o = AtLeast o (k * b + forced cs * a) (base cs + all_free (above a b) i cs + k * a + forced cs * b)

  -- the mark leaves room for a choice of k
  pub record Marks (i : ℕ) (cs : List Costs) (k : ℕ) : Type 0 where
    pub stuck : stuck cs ≡ 0
    pub enough : forced cs + all_free (is_above a b) i cs ≤ k
    pub reached : k ≤ forced cs + all_free (is_reached a b) i cs

  above_le_by : (i : ℕ) (s d : Option ℕ) → free_by (λ z p. is_above a b z) i s d ≤ free_by (λ z p. is_reached a b z) i s d
  above_le_by i s d = grind arith

  -- what is above the mark reaches it
  above_le : (i : ℕ) (cs : List Costs) → all_free (is_above a b) i cs ≤ all_free (is_reached a b) i cs
  above_le i [] = omega arith
  above_le i (c ∷ cs) = omega (arith, above_le_by i c.sat c.dsat, above_le (suc i) cs)

  abbrev Others : ℕ → List Costs → Type 0
  Others i cs = (k : ℕ) → Marks i cs k → Reaches i cs k (most_chosen cs k)

  step_zero : (s d : Option ℕ) (i : ℕ) (cs : List Costs) (o : Option ℕ) → (Marks (suc i) cs zero → Reaches (suc i) cs zero o)
      → Marks i (child s d ∷ cs) zero → Reaches i (child s d ∷ cs) zero (added d o)
  step_zero s d i cs o others m = grind arith

  -- at the mark a child is satisfied only where the others are too few
  step : (s d : Option ℕ) (i : ℕ) (cs : List Costs) (k : ℕ) (o p : Option ℕ) → all_free (is_above a b) (suc i) cs ≤ all_free (is_reached a b) (suc i) cs
      → (Marks (suc i) cs k → Reaches (suc i) cs k o) → (Marks (suc i) cs (suc k) → Reaches (suc i) cs (suc k) p)
      → Marks i (child s d ∷ cs) (suc k) → Reaches i (child s d ∷ cs) (suc k) (heavier (added s o) (added d p))
  step s d i cs k o p le fewer as_many m = grind arith

  pub chosen_reaches : (i : ℕ) (cs : List Costs) → Others i cs
  chosen_reaches i [] zero m = omega arith
  chosen_reaches i [] (suc k) m = absurd (omega (arith, m.reached))
  chosen_reaches i (c ∷ cs) zero m = step_zero c.sat c.dsat i cs (most_chosen cs zero) (chosen_reaches (suc i) cs zero) m
  chosen_reaches i (c ∷ cs) (suc k) m =
      step c.sat c.dsat i cs k (most_chosen cs k) (most_chosen cs (suc k)) (above_le (suc i) cs) (chosen_reaches (suc i) cs k) (chosen_reaches (suc i) cs (suc k)) m

  exactly : (i : ℕ) (cs : List Costs) (m : ℕ) (gain : ℤ) (o : Option ℕ)
      → up gain + m * b ≡ down gain + all_free (above a b) i cs + m * a
      → Whenever o (λ n. Below i cs (forced cs + m) n) → Reaches i cs (forced cs + m) o
      → Exactly o (λ n. n + down gain ≡ base cs + up gain)
  exactly i cs m gain o sum below reaches = grind arith

  -- so many more than the forced ones: what they take is the base and the gain
  pub chosen_is : (cs : List Costs) (k m : ℕ) (gain : ℤ) → stuck cs ≡ 0 → forced cs + m ≡ k
      → all_free (is_above a b) 0 cs ≤ m → m ≤ all_free (is_reached a b) 0 cs
      → up gain + m * b ≡ down gain + all_free (above a b) 0 cs + m * a
      → Exactly (most_chosen cs k) (λ n. n + down gain ≡ base cs + up gain)
  chosen_is cs k m gain no_stuck wanted enough reached sum =
      let At : ℕ → Type 0 = λ j. Exactly (most_chosen cs j) (λ n. n + down gain ≡ base cs + up gain) in
      subst At wanted
      (exactly 0 cs m gain (most_chosen cs (forced cs + m)) sum (chosen_below 0 cs (forced cs + m))
      (chosen_reaches 0 cs (forced cs + m) (record { stuck = no_stuck; enough = omega (arith, enough); reached = omega (arith, reached) })))

none_when : (cs : List Costs) (k : ℕ) (o : Option ℕ) → Whenever o (λ n. Below 0 0 0 cs k n)
    → (0 < stuck cs) ⊎ ((k < forced cs) ⊎ (forced cs + all_free (λ z. 1) 0 cs < k)) → o ≡ None
none_when cs k o below out = grind arith

-- where there is no choice of k
pub none_chosen : (cs : List Costs) (k : ℕ) → (0 < stuck cs) ⊎ ((k < forced cs) ⊎ (forced cs + all_free (λ z. 1) 0 cs < k)) → most_chosen cs k ≡ None
none_chosen cs k out = none_when cs k (most_chosen cs k) (chosen_below 0 0 0 cs k) out

dissatisfied_is : (s d : Option ℕ) (cs : List Costs) (o : Option ℕ) → stuck (child s d ∷ cs) ≡ 0 → forced (child s d ∷ cs) ≡ 0
    → Exactly o (λ n. n ≡ base cs) → Exactly (added d o) (λ n. n ≡ base (child s d ∷ cs))
dissatisfied_is s d cs o no_stuck no_forced is = grind arith

pub dissatisfied_chosen : (cs : List Costs) → stuck cs ≡ 0 → forced cs ≡ 0 → Exactly (most_chosen cs 0) (λ n. n ≡ base cs)
dissatisfied_chosen [] no_stuck no_forced = refl
dissatisfied_chosen (c ∷ cs) no_stuck no_forced =
    dissatisfied_is c.sat c.dsat cs (most_chosen cs 0) no_stuck no_forced (dissatisfied_chosen cs (omega (arith, no_stuck)) (omega (arith, no_forced)))
