-- A simple policy is true where the policy is.
use Rattle.std.proofs.Common.{◌≡◌, ℕ, ◌+◌, ◌-◌, ◌≤◌, nat_le, Bool, true, false, not, ◌&&◌, ◌||◌, List, [], ◌∷◌, ◌++◌, length, map, filter, flat_map, refl, sym, ◌∙◌, ap, arith}
use Rattle.std.specs.List.{list_any, list_all}
use Rattle.std.proofs.Math.Bool.{and-true, and-false, or-true, or-false}
use Rattle.std.proofs.lemmas.Bool.Decides.{nat_tests}
use Rattle.std.proofs.lemmas.List.{map-append, length-map}
use Rattle.std.proofs.lemmas.List.Folds.{list_all-append, list_any-append}
use Rattle.def_policy.specs.declared.Join.{Join}
use Rattle.def_policy.specs.declared.Join.TheVariants as join
use Rattle.def_policy.specs.Policy.{Policy, Policies, never, always, all, any, thresh, none, more, list_of, policies_of}
use Rattle.def_policy.specs.Simple.{decisive, is_decisive, opened, gathered, joined, is_always, is_never, chosen, threshold, simple, simple_each}
use Rattle.def_policy.specs.Truth.{Facts, how_many, is_true, truths}
use Rattle.def_policy.specs.Laws.{SimpleKeepsTruth}
use Rattle.def_policy.proofs.Joins.{joined_cases, chosen_cases}

-- the truth of joined truths
abbrev pub holds : Join → List Bool → Bool
holds join.All = list_all (λ b. b)
holds join.Any = list_any (λ b. b)

-- counts and truths
pub how_many-le : (bs : List Bool) → how_many bs ≤ length bs
how_many-le [] = omega arith
how_many-le (true ∷ bs) = let h = how_many-le bs in omega arith
how_many-le (false ∷ bs) = let h = how_many-le bs in omega arith

pub all_how_many : (bs : List Bool) → list_all (λ b. b) bs ≡ nat_le (length bs) (how_many bs)
all_how_many [] = refl
all_how_many (true ∷ bs) = all_how_many bs ∙ grind (arith, nat_tests)
all_how_many (false ∷ bs) = let h = how_many-le bs in grind (arith, nat_tests)

pub any_how_many : (bs : List Bool) → list_any (λ b. b) bs ≡ nat_le 1 (how_many bs)
any_how_many [] = refl
any_how_many (true ∷ bs) = grind (arith, nat_tests)
any_how_many (false ∷ bs) = any_how_many bs ∙ grind (arith, nat_tests)

module _ (facts : Facts) where
  -- the truth of each of a list
  abbrev pub each : List Policy → List Bool
  each = map (is_true facts)

  pub truths-policies_of : (parts : List Policy) → truths facts (policies_of parts) ≡ each parts
  truths-policies_of [] = refl
  truths-policies_of (x ∷ xs) = ap (λ bs. is_true facts x ∷ bs) (truths-policies_of xs)

  pub each-list_of : (parts : Policies) → each (list_of parts) ≡ truths facts parts
  each-list_of none = refl
  each-list_of (more x xs) = ap (λ bs. is_true facts x ∷ bs) (each-list_of xs)

  -- parts that stand in the place of theirs
  spread_all : (parts : Policies) (xs ys : List Policy) →
      list_all (λ b. b) (each xs) ≡ list_all (λ b. b) (each ys) →
      list_all (λ b. b) (each (list_of parts ++ xs)) ≡ (list_all (λ b. b) (truths facts parts) && list_all (λ b. b) (each ys))
  spread_all parts xs ys e = rw map-append (list_all-append (λ b. b) (each (list_of parts)) (each xs) ∙ rw (e, each-list_of parts) refl)

  spread_any : (parts : Policies) (xs ys : List Policy) →
      list_any (λ b. b) (each xs) ≡ list_any (λ b. b) (each ys) →
      list_any (λ b. b) (each (list_of parts ++ xs)) ≡ (list_any (λ b. b) (truths facts parts) || list_any (λ b. b) (each ys))
  spread_any parts xs ys e = rw map-append (list_any-append (λ b. b) (each (list_of parts)) (each xs) ∙ rw (e, each-list_of parts) refl)

  pub opened_truth : (how : Join) (parts : List Policy) → holds how (each (flat_map (opened how) parts)) ≡ holds how (each parts)
  opened_truth join.All [] = refl
  opened_truth join.Any [] = refl
  opened_truth join.All (always ∷ xs) = opened_truth join.All xs
  opened_truth join.All (all parts ∷ xs) = spread_all parts _ xs (opened_truth join.All xs)
  opened_truth join.All (x ∷ xs) = ap (λ b. is_true facts x && b) (opened_truth join.All xs)
  opened_truth join.Any (never ∷ xs) = opened_truth join.Any xs
  opened_truth join.Any (any parts ∷ xs) = spread_any parts _ xs (opened_truth join.Any xs)
  opened_truth join.Any (x ∷ xs) = ap (λ b. is_true facts x || b) (opened_truth join.Any xs)

  gathered_truth : (how : Join) (parts : List Policy) → is_true facts (gathered how parts) ≡ holds how (each parts)
  gathered_truth join.All [] = refl
  gathered_truth join.Any [] = refl
  gathered_truth join.All (x ∷ []) = sym (and-true (is_true facts x))
  gathered_truth join.Any (x ∷ []) = sym (or-false (is_true facts x))
  gathered_truth join.All (x ∷ y ∷ xs) = ap (list_all (λ b. b)) (truths-policies_of (x ∷ y ∷ xs))
  gathered_truth join.Any (x ∷ y ∷ xs) = ap (list_any (λ b. b)) (truths-policies_of (x ∷ y ∷ xs))

  decided : (how : Join) (parts : List Policy) → list_any (is_decisive how) parts ≡ true → is_true facts (decisive how) ≡ holds how (each parts)
  decided join.All [] e = cc
  decided join.Any [] e = cc
  decided join.All (never ∷ xs) e = refl
  decided join.All (x ∷ xs) e = sym (ap (λ b. is_true facts x && b) (sym (decided join.All xs e)) ∙ and-false (is_true facts x))
  decided join.Any (always ∷ xs) e = refl
  decided join.Any (x ∷ xs) e = sym (ap (λ b. is_true facts x || b) (sym (decided join.Any xs e)) ∙ or-true (is_true facts x))

  pub joined_truth : (how : Join) (parts : List Policy) → is_true facts (joined how parts) ≡ holds how (each parts)
  joined_truth how parts =
      joined_cases (λ p. is_true facts p ≡ holds how (each parts)) how parts
      (decided how parts)
      (λ e. gathered_truth how (flat_map (opened how) parts) ∙ opened_truth how parts)

  -- at least k of them
  at_least : (k : ℕ) (parts : List Policy) → is_true facts (chosen k parts) ≡ nat_le k (how_many (each parts))
  at_least k parts =
      let most = how_many-le (each parts) in
      let same : length (each parts) ≡ length parts = length-map parts (is_true facts) in
      chosen_cases (λ p. is_true facts p ≡ nat_le k (how_many (each parts))) k parts
      (λ e. grind (arith, nat_tests))
      (λ e. grind (arith, nat_tests))
      (λ e. joined_truth join.Any parts ∙ any_how_many (each parts) ∙ ap (λ n. nat_le n (how_many (each parts))) (sym e))
      (λ e. joined_truth join.All parts ∙ all_how_many (each parts) ∙ ap (λ n. nat_le n (how_many (each parts))) (same ∙ sym e))
      (ap (λ bs. nat_le k (how_many bs)) (truths-policies_of parts))

  -- what is always true counts for one, and what never is for nothing
  counted : (parts : List Policy) →
      length (filter is_always parts) + how_many (each (filter (λ part. not (is_always part || is_never part)) parts)) ≡ how_many (each parts)
  counted [] = refl
  counted (always ∷ xs) = let h = counted xs in omega arith
  counted (never ∷ xs) = let h = counted xs in omega arith
  counted (x ∷ xs) = let h = counted xs in omega arith

  threshold_truth : (k : ℕ) (parts : List Policy) → is_true facts (threshold k parts) ≡ nat_le k (how_many (each parts))
  threshold_truth k parts =
      let rest : List Policy = filter (λ part. not (is_always part || is_never part)) parts in
      let h = counted parts in
      at_least (k - length (filter is_always parts)) rest ∙ grind (arith, nat_tests)

  mutual
    pub truth_kept : (policy : Policy) → is_true facts (simple policy) ≡ is_true facts policy
    truth_kept (all parts) = joined_truth join.All (simple_each parts) ∙ ap (list_all (λ b. b)) (truths_kept parts)
    truth_kept (any parts) = joined_truth join.Any (simple_each parts) ∙ ap (list_any (λ b. b)) (truths_kept parts)
    truth_kept (thresh k parts) = threshold_truth k (simple_each parts) ∙ ap (λ bs. nat_le k (how_many bs)) (truths_kept parts)
    truth_kept policy = refl

    truths_kept : (parts : Policies) → each (simple_each parts) ≡ truths facts parts
    truths_kept none = refl
    truths_kept (more x xs) = let e = truth_kept x in let es = truths_kept xs in cc

pub simple_keeps_truth : SimpleKeepsTruth
simple_keeps_truth = truth_kept
