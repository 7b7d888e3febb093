-- Joins and thresholds, case by case.
use Rattle.std.proofs.Common.{◌≡◌, ℕ, ◌<◌, ◌≤◌, ◌==◌, nat_lt, Bool, true, false, List, length, flat_map, refl, arith, if◌then◌else◌}
use Rattle.std.specs.List.{list_any}
use Rattle.std.proofs.lemmas.Bool.{eqb-true, ltb-true}
use Rattle.std.proofs.lemmas.Bool.Decides.{nat_tests}
use Rattle.def_policy.specs.declared.Join.{Join}
use Rattle.def_policy.specs.declared.Join.TheVariants as join
use Rattle.def_policy.specs.Policy.{Policy, never, always, thresh, policies_of}
use Rattle.def_policy.specs.Simple.{decisive, is_decisive, opened, gathered, joined, chosen}

pub if_cases : {A : Type 0} (P : A → Type 0) (b : Bool) (x y : A) → (b ≡ true → P x) → (b ≡ false → P y) → P (if b then x else y)
if_cases P true x y f g = f refl
if_cases P false x y f g = g refl

-- a part decides, or none does
pub joined_cases :
    (P : Policy → Type 0) (how : Join) (parts : List Policy) →
    (list_any (is_decisive how) parts ≡ true → P (decisive how)) →
    (list_any (is_decisive how) parts ≡ false → P (gathered how (flat_map (opened how) parts))) →
    P (joined how parts)
joined_cases P how parts f g = if_cases P (list_any (is_decisive how) parts) (decisive how) (gathered how (flat_map (opened how) parts)) f g

-- what so many parts may be, where those that are left are more than one of them and not all
pub chosen_cases_within :
    (P : Policy → Type 0) (k : ℕ) (parts : List Policy) →
    (k ≡ 0 → P always) →
    (length parts < k → P never) →
    (k ≡ 1 → P (joined join.Any parts)) →
    (k ≡ length parts → P (joined join.All parts)) →
    (2 ≤ k → k < length parts → P (thresh k (policies_of parts))) →
    P (chosen k parts)
chosen_cases_within P k parts zero few one each rest =
    if_cases P (k == 0) _ _ (λ e. zero (eqb-true k 0 e)) (λ a.
    if_cases P (nat_lt (length parts) k) _ _ (λ e. few (ltb-true (length parts) k e)) (λ b.
    if_cases P (k == 1) _ _ (λ e. one (eqb-true k 1 e)) (λ c.
    if_cases P (k == length parts) _ _ (λ e. each (eqb-true k (length parts) e)) (λ d. rest (grind (arith, nat_tests)) (grind (arith, nat_tests))))))

pub chosen_cases :
    (P : Policy → Type 0) (k : ℕ) (parts : List Policy) →
    (k ≡ 0 → P always) →
    (length parts < k → P never) →
    (k ≡ 1 → P (joined join.Any parts)) →
    (k ≡ length parts → P (joined join.All parts)) →
    P (thresh k (policies_of parts)) →
    P (chosen k parts)
chosen_cases P k parts zero few one each rest = chosen_cases_within P k parts zero few one each (λ _ _. rest)
