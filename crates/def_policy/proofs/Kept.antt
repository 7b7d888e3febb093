-- A simple policy is left as it is.
use Rattle.std.proofs.Common.{◌≡◌, ℕ, ◌-◌, ◌<◌, ◌≤◌, ◌==◌, nat_lt, false, not, ◌||◌, List, ◌∷◌, length, filter, flat_map, refl, sym, ◌∙◌, ap, arith}
use Rattle.std.specs.List.{list_any}
use Rattle.std.proofs.lemmas.Bool.Decides.{nat_tests}
use Rattle.def_policy.specs.declared.Join.{Join}
use Rattle.def_policy.specs.declared.Join.TheVariants as join
use Rattle.def_policy.specs.Policy.{Policy, Policies, never, always, all, any, thresh, none, more, list_of, policies_of, joining}
use Rattle.def_policy.specs.Simple.{is_decisive, opened, gathered, joined, is_always, is_never, chosen, threshold, simple, simple_each}
use Rattle.def_policy.specs.Laws.{count, IsPart, AreParts, SimpleIsKept, SimpleOnce}
use Rattle.def_policy.proofs.Forms.{ArePartsOf, simple_is_simple}

-- a list and back
policies_of-list_of : (parts : Policies) → policies_of (list_of parts) ≡ parts
policies_of-list_of none = refl
policies_of-list_of (more x xs) = ap (more x) (policies_of-list_of xs)

-- ---- parts that are joined: none decides, each stands in its own place, and two and more are gathered

decides : (how : Join) (parts : Policies) → ArePartsOf how parts → list_any (is_decisive how) (list_of parts) ≡ false
decides join.All (more never xs) p = absurd p.0
decides join.Any (more always xs) p = absurd p.0
decides how none p = refl
decides how (more x xs) p = decides how xs p.2

kept_opened : (how : Join) (parts : Policies) → ArePartsOf how parts → flat_map (opened how) (list_of parts) ≡ list_of parts
kept_opened join.All (more always xs) p = absurd p.0
kept_opened join.All (more (all parts) xs) p = absurd p.1
kept_opened join.Any (more never xs) p = absurd p.0
kept_opened join.Any (more (any parts) xs) p = absurd p.1
kept_opened how none p = refl
kept_opened how (more x xs) p = ap (λ ys. x ∷ ys) (kept_opened how xs p.2)

kept_gathered : (how : Join) (parts : Policies) → 2 ≤ count parts → gathered how (list_of parts) ≡ joining how parts
kept_gathered how none two = absurd (omega (arith, two))
kept_gathered how (more x none) two = absurd (omega (arith, two))
kept_gathered how (more x (more y ys)) two = ap (λ zs. joining how (more x (more y zs))) (policies_of-list_of ys)

kept_joined : (how : Join) (parts : Policies) → ArePartsOf how parts → 2 ≤ count parts → joined how (list_of parts) ≡ joining how parts
kept_joined how parts p two = rw (decides how parts p) (ap (gathered how) (kept_opened how parts p) ∙ kept_gathered how parts two)

-- ---- of a threshold none is always or never true, and k is no edge

none_always : (parts : Policies) → AreParts parts → length (filter is_always (list_of parts)) ≡ 0
none_always none p = refl
none_always (more always xs) p = absurd p.0
none_always (more x xs) p = none_always xs p.1

all_left : (parts : Policies) → AreParts parts → filter (λ part. not (is_always part || is_never part)) (list_of parts) ≡ list_of parts
all_left none p = refl
all_left (more never xs) p = absurd p.0
all_left (more always xs) p = absurd p.0
all_left (more x xs) p = ap (λ ys. x ∷ ys) (all_left xs p.1)

within : (k : ℕ) (parts : List Policy) → 2 ≤ k → k < length parts → chosen k parts ≡ thresh k (policies_of parts)
within k parts two less =
    let a : (k == 0) ≡ false = grind (arith, nat_tests) in
    let b : nat_lt (length parts) k ≡ false = grind (arith, nat_tests) in
    let c : (k == 1) ≡ false = grind (arith, nat_tests) in
    let d : (k == length parts) ≡ false = grind (arith, nat_tests) in
    rw (a, b, c, d) refl

threshold_kept : (k : ℕ) (parts : Policies) → AreParts parts → 2 ≤ k → k < count parts → threshold k (list_of parts) ≡ thresh k parts
threshold_kept k parts p two less =
    let n : k ≡ k - length (filter is_always (list_of parts)) = let e = none_always parts p in omega (arith, e) in
    ap (λ m. chosen m (filter (λ part. not (is_always part || is_never part)) (list_of parts))) (sym n)
    ∙ ap (chosen k) (all_left parts p) ∙ within k (list_of parts) two less ∙ ap (thresh k) (policies_of-list_of parts)

mutual
  part_kept : (x : Policy) → IsPart x → simple x ≡ x
  part_kept (all parts) p = ap (joined join.All) (joined_parts_kept join.All parts p.0) ∙ kept_joined join.All parts p.0 p.1
  part_kept (any parts) p = ap (joined join.Any) (joined_parts_kept join.Any parts p.0) ∙ kept_joined join.Any parts p.0 p.1
  part_kept (thresh k parts) p = ap (threshold k) (parts_kept parts p.0) ∙ threshold_kept k parts p.0 p.1 p.2
  part_kept x p = refl

  joined_parts_kept : (how : Join) (parts : Policies) → ArePartsOf how parts → simple_each parts ≡ list_of parts
  joined_parts_kept how none p = refl
  joined_parts_kept join.All (more x xs) p = let e = part_kept x p.0 in let es = joined_parts_kept join.All xs p.2 in cc
  joined_parts_kept join.Any (more x xs) p = let e = part_kept x p.0 in let es = joined_parts_kept join.Any xs p.2 in cc

  parts_kept : (parts : Policies) → AreParts parts → simple_each parts ≡ list_of parts
  parts_kept none p = refl
  parts_kept (more x xs) p = let e = part_kept x p.0 in let es = parts_kept xs p.1 in cc

pub simple_is_kept : SimpleIsKept
simple_is_kept never p = refl
simple_is_kept always p = refl
simple_is_kept x p = part_kept x p

pub simple_once : SimpleOnce
simple_once policy = simple_is_kept (simple policy) (simple_is_simple policy)
