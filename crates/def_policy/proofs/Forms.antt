-- A policy made simple is simple.
use Rattle.std.proofs.Common.{◌≡◌, ℕ, suc, ◌≤◌, false, not, ◌||◌, List, [], ◌∷◌, ◌++◌, length, filter, flat_map, refl, ap, arith}
use Rattle.std.specs.Bool.{⊤}
use Rattle.std.specs.List.{list_any}
use Rattle.def_policy.specs.declared.Join.{Join}
use Rattle.def_policy.specs.declared.Join.TheVariants as join
use Rattle.def_policy.specs.Policy.{Policy, Policies, never, always, all, any, thresh, none, more, list_of, policies_of}
use Rattle.def_policy.specs.Simple.{is_decisive, opened, gathered, joined, is_always, is_never, threshold, simple_each}
use Rattle.def_policy.specs.Laws.{count, IsPart, AreParts, ArePartsOfAll, ArePartsOfAny, IsNoAll, IsNoAny, IsSimple, SimpleIsSimple}
use Rattle.def_policy.proofs.Joins.{joined_cases, chosen_cases_within}

abbrev pub Each : (Policy → Type 0) → List Policy → Type 0
Each P [] = ⊤
Each P (x ∷ xs) = P x × Each P xs

each_append : (P : Policy → Type 0) (xs ys : List Policy) → Each P xs → Each P ys → Each P (xs ++ ys)
each_append P [] ys e f = f
each_append P (x ∷ xs) ys e f = (e.0, each_append P xs ys e.1 f)

-- a part of what is joined in one way
abbrev pub IsPartOf : Join → Policy → Type 0
IsPartOf join.All x = IsPart x × IsNoAll x
IsPartOf join.Any x = IsPart x × IsNoAny x

abbrev pub ArePartsOf : Join → Policies → Type 0
ArePartsOf join.All = ArePartsOfAll
ArePartsOf join.Any = ArePartsOfAny

pub part_is_simple : (x : Policy) → IsPart x → IsSimple x
part_is_simple never p = tt
part_is_simple always p = tt
part_is_simple x p = p

-- as many as in the list
pub count_of : (parts : List Policy) → count (policies_of parts) ≡ length parts
count_of [] = refl
count_of (x ∷ xs) = ap suc (count_of xs)

two_of : (x y : Policy) (xs : List Policy) → 2 ≤ count (policies_of (x ∷ y ∷ xs))
two_of x y xs = omega arith

-- the parts of what is joined, as a list and back
parts_of : (how : Join) (parts : Policies) → ArePartsOf how parts → Each (IsPartOf how) (list_of parts)
parts_of how none p = tt
parts_of join.All (more x xs) p = ((p.0, p.1), parts_of join.All xs p.2)
parts_of join.Any (more x xs) p = ((p.0, p.1), parts_of join.Any xs p.2)

of_parts : (how : Join) (parts : List Policy) → Each (IsPartOf how) parts → ArePartsOf how (policies_of parts)
of_parts join.All [] p = tt
of_parts join.Any [] p = tt
of_parts join.All (x ∷ xs) p = (p.0.0, p.0.1, of_parts join.All xs p.1)
of_parts join.Any (x ∷ xs) p = (p.0.0, p.0.1, of_parts join.Any xs p.1)

these_parts : (parts : List Policy) → Each IsPart parts → AreParts (policies_of parts)
these_parts [] p = tt
these_parts (x ∷ xs) p = (p.0, these_parts xs p.1)

opened_form : (how : Join) (parts : List Policy) → Each IsSimple parts → list_any (is_decisive how) parts ≡ false → Each (IsPartOf how) (flat_map (opened how) parts)
opened_form how [] p e = tt
opened_form join.All (never ∷ xs) p e = absurd (cc)
opened_form join.All (always ∷ xs) p e = opened_form join.All xs p.1 e
opened_form join.All (all parts ∷ xs) p e = each_append (IsPartOf join.All) (list_of parts) _ (parts_of join.All parts p.0.0) (opened_form join.All xs p.1 e)
opened_form join.Any (always ∷ xs) p e = absurd (cc)
opened_form join.Any (never ∷ xs) p e = opened_form join.Any xs p.1 e
opened_form join.Any (any parts ∷ xs) p e = each_append (IsPartOf join.Any) (list_of parts) _ (parts_of join.Any parts p.0.0) (opened_form join.Any xs p.1 e)
opened_form how (x ∷ xs) p e = ((p.0, tt), opened_form how xs p.1 e)

gathered_form : (how : Join) (parts : List Policy) → Each (IsPartOf how) parts → IsSimple (gathered how parts)
gathered_form join.All [] p = tt
gathered_form join.Any [] p = tt
gathered_form join.All (x ∷ []) p = part_is_simple x p.0.0
gathered_form join.Any (x ∷ []) p = part_is_simple x p.0.0
gathered_form join.All (x ∷ y ∷ xs) p = (of_parts join.All (x ∷ y ∷ xs) p, two_of x y xs)
gathered_form join.Any (x ∷ y ∷ xs) p = (of_parts join.Any (x ∷ y ∷ xs) p, two_of x y xs)

decisive_form : (how : Join) (parts : List Policy) → Each IsSimple parts → IsSimple (joined how parts)
decisive_form join.All parts p = joined_cases IsSimple join.All parts (λ e. tt) (λ e. gathered_form join.All _ (opened_form join.All parts p e))
decisive_form join.Any parts p = joined_cases IsSimple join.Any parts (λ e. tt) (λ e. gathered_form join.Any _ (opened_form join.Any parts p e))

-- neither Always nor Never
left_form : (parts : List Policy) → Each IsSimple parts → Each IsPart (filter (λ part. not (is_always part || is_never part)) parts)
left_form [] p = tt
left_form (never ∷ xs) p = left_form xs p.1
left_form (always ∷ xs) p = left_form xs p.1
left_form (x ∷ xs) p = (p.0, left_form xs p.1)

parts_are_simple : (parts : List Policy) → Each IsPart parts → Each IsSimple parts
parts_are_simple [] p = tt
parts_are_simple (x ∷ xs) p = (part_is_simple x p.0, parts_are_simple xs p.1)

threshold_form : (k : ℕ) (parts : List Policy) → Each IsSimple parts → IsSimple (threshold k parts)
threshold_form k parts p =
    let left = left_form parts p in
    let simple = parts_are_simple _ left in
    chosen_cases_within IsSimple _ _ (λ e. tt) (λ e. tt) (λ e. decisive_form join.Any _ simple) (λ e. decisive_form join.All _ simple)
    (λ two less. let same = count_of (filter (λ part. not (is_always part || is_never part)) parts) in (these_parts _ left, two, omega arith))

mutual
  pub simple_is_simple : SimpleIsSimple
  simple_is_simple (all parts) = decisive_form join.All (simple_each parts) (each_is_simple parts)
  simple_is_simple (any parts) = decisive_form join.Any (simple_each parts) (each_is_simple parts)
  simple_is_simple (thresh k parts) = threshold_form k (simple_each parts) (each_is_simple parts)
  simple_is_simple x = tt

  each_is_simple : (parts : Policies) → Each IsSimple (simple_each parts)
  each_is_simple none = tt
  each_is_simple (more x xs) = (simple_is_simple x, each_is_simple xs)
