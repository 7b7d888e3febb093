-- Whether there is a choice of so many, by how many children there are of each kind.
use Rattle.std.proofs.Common.{◌≡◌, ℕ, zero, suc, ◌+◌, ◌≤◌, nat_le, nat_eq, true, ◌&&◌, List, [], ◌∷◌, ◌++◌, length, Option, Some, is_some, refl, sym, ◌∙◌, ap, arith}
use Rattle.std.proofs.lemmas.Bool.Decides.{nat_tests}
use Rattle.ms_choice.specs.declared.children.Costs.{Costs}
use Rattle.ms_choice.specs.declared.kinds.KindCounts.{KindCounts}
use Rattle.ms_choice.specs.Choice.{Pick, picks, lighter, least, lightest, heavier, most}
use Rattle.ms_choice.specs.Kinds.{with_child, allows, Counts}
use Rattle.ms_choice.specs.Tally.{forced, stuck, free, forced_by, stuck_by, free_by}
use Rattle.ms_choice.proofs.Totals.{total_push}
use Rattle.ms_choice.proofs.Picks.{added, most_chosen, greatest_is}
use Rattle.ms_choice.proofs.Greatest.{child, all_free, none_chosen}
use Rattle.ms_choice.proofs.Tallies.{over_free-push}

-- ---- there is a lightest choice exactly where there is a greatest

some_alike : (ps : List Pick) → is_some (least ps) ≡ is_some (most ps)
some_alike [] = refl
some_alike (p ∷ ps) = alike p (least ps) (most ps)
  where
    alike : (p : Pick) (o : Option Pick) (w : Option ℕ) → is_some (lighter (Some p) o) ≡ is_some (heavier (Some p.0) w)
    alike p o w = grind arith

-- ---- and that where the counts allow it

record IsRoom (i : ℕ) (cs : List Costs) (k : ℕ) : Type 0 where
  pub stuck : stuck cs ≡ 0
  pub enough : forced cs ≤ k
  pub room : k ≤ forced cs + all_free (λ z. 1) i cs

-- of a further child
there_is_none : (s d : Option ℕ) (i : ℕ) (cs : List Costs) (o : Option ℕ) → IsRoom i (child s d ∷ cs) zero → (IsRoom (suc i) cs zero → is_some o ≡ true)
    → is_some (added d o) ≡ true
there_is_none s d i cs o r h = grind arith

there_is : (s d : Option ℕ) (i : ℕ) (cs : List Costs) (k : ℕ) (o p : Option ℕ) → IsRoom i (child s d ∷ cs) (suc k)
    → (IsRoom (suc i) cs k → is_some o ≡ true) → (IsRoom (suc i) cs (suc k) → is_some p ≡ true) → is_some (heavier (added s o) (added d p)) ≡ true
there_is s d i cs k o p r h g = grind arith

some_choice : (i : ℕ) (cs : List Costs) (k : ℕ) → IsRoom i cs k → is_some (most_chosen cs k) ≡ true
some_choice i [] zero r = refl
some_choice i [] (suc k) r = absurd (omega (arith, r.room))
some_choice i (c ∷ cs) zero r = there_is_none c.sat c.dsat i cs (most_chosen cs zero) r (some_choice (suc i) cs zero)
some_choice i (c ∷ cs) (suc k) r = there_is c.sat c.dsat i cs k (most_chosen cs k) (most_chosen cs (suc k)) r (some_choice (suc i) cs k) (some_choice (suc i) cs (suc k))

allowed_choice : (cs : List Costs) (k : ℕ) → (nat_eq (stuck cs) 0 && nat_le (forced cs) k && nat_le k (forced cs + free cs)) ≡ is_some (most_chosen cs k)
allowed_choice cs k = grind (arith, nat_tests, some_choice 0 cs k, none_chosen cs k)

pub allowed : (cs : List Costs) (kinds : KindCounts) (k : ℕ) → Counts cs kinds → allows kinds k ≡ is_some (lightest cs k)
allowed cs kinds k told =
    ap (λ n. nat_eq n 0 && nat_le kinds.forced k && nat_le k (kinds.forced + kinds.free)) told.stuck ∙
    ap (λ n. nat_eq (stuck cs) 0 && nat_le n k && nat_le k (n + kinds.free)) told.forced ∙
    ap (λ n. nat_eq (stuck cs) 0 && nat_le (forced cs) k && nat_le k (forced cs + n)) told.free ∙
    allowed_choice cs k ∙
    sym (some_alike (picks cs k) ∙ ap is_some (greatest_is cs k))

-- ---- a further child

pub counts_push : (cs : List Costs) (c : Costs) (kinds : KindCounts) → Counts cs kinds → Counts (cs ++ c ∷ []) (with_child kinds (is_some c.sat) (is_some c.dsat))
counts_push cs c kinds told =
    go c.sat c.dsat (total_push (λ c. forced_by c.sat c.dsat) cs c) (total_push (λ c. stuck_by c.sat c.dsat) cs c) (over_free-push (λ difference place. 1) 0 cs c)
  where
    go : (s d : Option ℕ) → forced (cs ++ c ∷ []) ≡ forced cs + forced_by s d → stuck (cs ++ c ∷ []) ≡ stuck cs + stuck_by s d → free (cs ++ c ∷ [])
        ≡ free cs + free_by (λ difference place. 1) (0 + length cs) s d
        → Counts (cs ++ c ∷ []) (with_child kinds (is_some s) (is_some d))
    go s d x y z = grind arith
