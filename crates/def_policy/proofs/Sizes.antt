-- A policy made simple grows neither in size nor in depth, and the policy of a tree is at most twice as large and as
-- deep as the tree.
use Rattle.std.proofs.Common.{◌≡◌, ℕ, ◌+◌, ◌*◌, ◌≤◌, max, not, ◌||◌, List, [], ◌∷◌, ◌++◌, length, map, filter, flat_map, refl, arith}
use Rattle.def_tree.specs.Tree as tree
use Rattle.def_tree.specs.Tree.{Tree, Trees, Key}
use Rattle.def_tree.specs.InRange as tree_size_there
use Rattle.def_policy.specs.declared.Join.{Join}
use Rattle.def_policy.specs.declared.Join.TheVariants as join
use Rattle.def_policy.specs.Policy.{Policy, Policies, never, key, all, any, thresh, none, more, list_of, policies_of, joining}
use Rattle.def_policy.specs.Plain.{join_of, plain, plain_each}
use Rattle.def_policy.specs.Simple.{decisive, opened, gathered, joined, is_always, is_never, threshold, simple, simple_each}
use Rattle.def_policy.specs.Size.{size, size_of, depth, depth_of}
use Rattle.def_policy.specs.Laws.{SimpleIsSmaller, PlainIsSmall}
use Rattle.def_policy.proofs.Joins.{joined_cases, chosen_cases}

-- the size and the depth of a list
abbrev pub sizes : List Policy → ℕ
sizes [] = 0
sizes (x ∷ xs) = size x + sizes xs

abbrev pub depths : List Policy → ℕ
depths [] = 0
depths (x ∷ xs) = max (depth x) (depths xs)

-- no larger and no deeper than that
pub record Within (n d : ℕ) (x : Policy) : Type 0 where
  pub size : size x ≤ n
  pub depth : depth x ≤ d

pub record AreWithin (n d : ℕ) (xs : List Policy) : Type 0 where
  pub sizes : sizes xs ≤ n
  pub depths : depths xs ≤ d

-- both of policies as parts, and of parts before a list
of_policies : (xs : List Policy) → (size_of (policies_of xs) ≡ sizes xs) × (depth_of (policies_of xs) ≡ depths xs)
of_policies [] = (refl, refl)
of_policies (x ∷ xs) = omega (arith, of_policies xs)

appended : (parts : Policies) (xs : List Policy) →
    (sizes (list_of parts ++ xs) ≡ size_of parts + sizes xs) × (depths (list_of parts ++ xs) ≡ max (depth_of parts) (depths xs))
appended none xs = omega arith
appended (more x parts) xs = omega (arith, appended parts xs)

of_joining : (how : Join) (parts : Policies) → (size (joining how parts) ≡ size_of parts + 1) × (depth (joining how parts) ≡ depth_of parts + 1)
of_joining join.All parts = (refl, refl)
of_joining join.Any parts = (refl, refl)

opened_within : (how : Join) (xs : List Policy) → AreWithin (sizes xs) (depths xs) (flat_map (opened how) xs)
opened_within join.All (all parts ∷ xs) = omega (arith, opened_within join.All xs, appended parts (flat_map (opened join.All) xs))
opened_within join.Any (any parts ∷ xs) = omega (arith, opened_within join.Any xs, appended parts (flat_map (opened join.Any) xs))
opened_within how [] = omega arith
opened_within how (x ∷ xs) = omega (arith, opened_within how xs)

-- what is made of several parts
abbrev pub BelowOne : List Policy → Policy → Type 0
BelowOne xs = Within (sizes xs + 1) (depths xs + 1)

wider : (xs ys : List Policy) (p : Policy) → AreWithin (sizes ys) (depths ys) xs → BelowOne xs p → BelowOne ys p
wider xs ys p w h = omega arith

gathered_within : (how : Join) (xs : List Policy) → BelowOne xs (gathered how xs)
gathered_within join.All [] = omega arith
gathered_within join.Any [] = omega arith
gathered_within how (x ∷ []) = omega arith
gathered_within how (x ∷ y ∷ xs) = omega (arith, of_joining how (policies_of (x ∷ y ∷ xs)), of_policies (x ∷ y ∷ xs))

decisive_within : (how : Join) (xs : List Policy) → BelowOne xs (decisive how)
decisive_within join.All xs = omega arith
decisive_within join.Any xs = omega arith

joined_within : (how : Join) (xs : List Policy) → BelowOne xs (joined how xs)
joined_within how xs =
    joined_cases (BelowOne xs) how xs (λ e. decisive_within how xs)
    (λ e. wider _ xs _ (opened_within how xs) (gathered_within how (flat_map (opened how) xs)))

-- those that are neither Always nor Never
left_within : (xs : List Policy) → AreWithin (sizes xs) (depths xs) (filter (λ part. not (is_always part || is_never part)) xs)
left_within [] = omega arith
left_within (never ∷ xs) = omega (arith, left_within xs)
left_within (x ∷ xs) = omega (arith, left_within xs)

threshold_within : (k : ℕ) (xs : List Policy) → BelowOne xs (threshold k xs)
threshold_within k xs =
    let rest : List Policy = filter (λ part. not (is_always part || is_never part)) xs in
    let w = left_within xs in
    let a = of_policies rest in
    chosen_cases (BelowOne xs) _ rest
    (λ e. omega arith)
    (λ e. omega arith)
    (λ e. wider rest xs _ w (joined_within join.Any rest))
    (λ e. wider rest xs _ w (joined_within join.All rest))
    (omega arith)

mutual
  pub simple_within : (x : Policy) → Within (size x) (depth x) (simple x)
  simple_within (all parts) = omega (arith, each_within parts, joined_within join.All (simple_each parts))
  simple_within (any parts) = omega (arith, each_within parts, joined_within join.Any (simple_each parts))
  simple_within (thresh k parts) = omega (arith, each_within parts, threshold_within k (simple_each parts))
  simple_within x = omega arith

  each_within : (parts : Policies) → AreWithin (size_of parts) (depth_of parts) (simple_each parts)
  each_within none = omega arith
  each_within (more x xs) = omega (arith, simple_within x, each_within xs)

pub simple_is_smaller : SimpleIsSmaller
simple_is_smaller policy = let h = simple_within policy in (h.size, h.depth)

-- the keys of a `multi`
of_keys : (keys : List Key) → (size_of (policies_of (map key keys)) ≡ length keys) × (depth_of (policies_of (map key keys)) ≤ 1)
of_keys [] = (refl, omega arith)
of_keys (k ∷ keys) = omega (arith, of_keys keys)

mutual
  plain_within : (t : Tree) → Within (2 * tree_size_there.measure t) (2 * tree_size_there.depth t) (plain t)
  plain_within (tree.and_or x y z) = omega (arith, plain_within x, plain_within y, plain_within z)
  plain_within (tree.two kind x y) = omega (arith, plain_within x, plain_within y, of_joining (join_of kind) (policies_of (plain x ∷ plain y ∷ [])))
  plain_within (tree.thresh k xs) = omega (arith, plain_each_within xs)
  plain_within (tree.multi k keys) = omega (arith, of_keys keys)
  plain_within (tree.wrap wrapper x) = omega (arith, plain_within x)
  plain_within leaf = omega arith

  plain_each_within : (xs : Trees) → (size_of (plain_each xs) ≤ 2 * tree_size_there.measure_of xs) × (depth_of (plain_each xs) ≤ 2 * tree_size_there.depth_of xs)
  plain_each_within tree.none = omega arith
  plain_each_within (tree.more x xs) = omega (arith, plain_within x, plain_each_within xs)

pub plain_is_small : PlainIsSmall
plain_is_small t = let h = plain_within t in (h.size, h.depth)
