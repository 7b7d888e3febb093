-- What a policy costs is no more than its size, and the policy of a tree in range is small.
use Rattle.std.proofs.Common.{◌≡◌, ℕ, zero, suc, ◌+◌, ◌≤◌, List, [], ◌∷◌, ◌++◌, length, map, Option, Some, None, Result, Ok, Err, IfOk, Vec, Global, inl, inr, refl, sym, ◌∙◌, ap, arith}
use Rattle.std.proofs.lemmas.List.{length-map}
use Rattle.std.proofs.lemmas.Option.{none-some}
use Rattle.def_tree.specs.Tree.{Tree}
use Rattle.def_tree.specs.InRange.{IsInRange}
use Rattle.def_policy.specs.Policy.{Policy, Policies, never, always, key, older, after, hash, all, any, thresh, none, more, policies_of}
use Rattle.def_policy.specs.Plain.{plain}
use Rattle.def_policy.specs.Simple.{simple}
use Rattle.def_policy.specs.Size.{size, size_of, depth, MOST_POLICIES, MOST_POLICY_DEPTH}
use Rattle.def_policy.proofs.Sizes.{simple_is_smaller, plain_is_small}
use Rattle.ms_choice.specs.Sums.{total}
use Rattle.ms_policy.specs.Scaffolding.Cost.{plus, least_sum, count, and_also, cost, costs}
use Rattle.ms_policy.specs.Shape.{policy_shape}
use Rattle.ms_policy.specs.declared.policy.Policy.{Policy as Seen}
use Rattle.ms_policy.specs.declared.policy.Policy.TheViews.{All}
use Rattle.ms_policy.proofs.Seen.{seen-all}
use Rattle.ms_policy.proofs.Sums.{lesser_is, plus_is}

-- a clause on Ok, from another one
pub on_ok : {A E : Type 0} (P Q : A → Type 0) (r : Result A E) → ((x : A) → P x → Q x) → IfOk r P → IfOk r Q
on_ok P Q (Ok x) f h = f x h
on_ok P Q (Err e) f h = h

least_sum-le : (k : ℕ) (numbers : List ℕ) (m : ℕ) → least_sum k numbers ≡ Some m → m ≤ total (λ n. n) numbers
least_sum-le zero numbers m e = let same : 0 ≡ m = cc in omega arith
least_sum-le (suc k) [] m e = absurd (none-some m e)
least_sum-le (suc k) (n ∷ numbers) m e = elim (lesser_is (plus n (least_sum k numbers)) (least_sum (suc k) numbers) m e) [
  | inl f ↦ (
      let rest = plus_is n (least_sum k numbers) m f in
      let less = least_sum-le k numbers rest.0 rest.1 in
      let sum = rest.2 in
      omega arith)
  | inr f ↦ (let less = least_sum-le (suc k) numbers m f in omega arith)
]

-- some numbers in front of others are no more than all
pub total_front : (front back whole : List ℕ) → front ++ back ≡ whole → total (λ n. n) front ≤ total (λ n. n) whole
total_front front back whole e = let sum = ap (total (λ n. n)) e in let parts = total-append front back in omega arith
  where
    total-append : (xs ys : List ℕ) → total (λ n. n) (xs ++ ys) ≡ total (λ n. n) xs + total (λ n. n) ys
    total-append [] ys = omega arith
    total-append (x ∷ xs) ys = let h = total-append xs ys in omega arith

total-and_also : (o : Option ℕ) (numbers : List ℕ) (a b : ℕ) → ((n : ℕ) → o ≡ Some n → n ≤ a) → total (λ n. n) numbers ≤ b → total (λ n. n) (and_also o numbers) ≤ a + b
total-and_also None numbers a b h k = omega arith
total-and_also (Some n) numbers a b h k = let less = h n refl in omega arith

mutual
  cost-le : (p : Policy) (n : ℕ) → cost p ≡ Some n → n ≤ size p
  cost-le never n e = absurd (none-some n e)
  cost-le always n e = let same : 0 ≡ n = cc in omega arith
  cost-le (key k) n e = let same : 1 ≡ n = cc in omega arith
  cost-le (older m) n e = let same : 0 ≡ n = cc in omega arith
  cost-le (after m) n e = let same : 0 ≡ n = cc in omega arith
  cost-le (hash kind value) n e = let same : 0 ≡ n = cc in omega arith
  cost-le (all parts) n e = let less = least_sum-le (count parts) (costs parts) n e in let few = total-costs parts in omega arith
  cost-le (any parts) n e = let less = least_sum-le 1 (costs parts) n e in let few = total-costs parts in omega arith
  cost-le (thresh k parts) n e = let less = least_sum-le k (costs parts) n e in let few = total-costs parts in omega arith

  pub total-costs : (xs : Policies) → total (λ n. n) (costs xs) ≤ size_of xs
  total-costs none = omega arith
  total-costs (more x xs) = total-and_also (cost x) (costs xs) (size x) (size_of xs) (λ n e. cost-le x n e) (total-costs xs)

count-policies_of : (parts : List Policy) → count (policies_of parts) ≡ length parts
count-policies_of [] = refl
count-policies_of (x ∷ parts) = let h = count-policies_of parts in omega arith

-- an All costs what all of its parts do
pub cost-all : (policy : Seen) (parts : Vec Seen Global) (items : List Seen) (k : ℕ) → policy ≡ All parts → items ≡ parts.items → k ≡ parts.len →
    least_sum k (costs (policies_of (map policy_shape items))) ≡ cost (policy_shape policy)
cost-all policy parts items k is same len =
    let size : k ≡ count (policies_of (map policy_shape items)) =
    omega (arith, parts.ok.0, ap length same, count-policies_of (map policy_shape items), length-map items policy_shape) in
    ap (λ n. least_sum n (costs (policies_of (map policy_shape items)))) size ∙
    ap (λ xs. cost (all (policies_of (map policy_shape xs)))) same ∙ ap cost (sym (seen-all policy parts is))

pub policy_is_few : (tree : Tree) → IsInRange tree → size (simple (plain tree)) ≤ MOST_POLICIES
policy_is_few tree range =
    let a = simple_is_smaller (plain tree) in
    let b = plain_is_small tree in
    let a0 = a.0 in
    let b0 = b.0 in
    let r = range.measure in
    omega arith

pub policy_is_shallow : (tree : Tree) → IsInRange tree → depth (simple (plain tree)) ≤ MOST_POLICY_DEPTH
policy_is_shallow tree range =
    let a = simple_is_smaller (plain tree) in
    let b = plain_is_small tree in
    let a1 = a.1 in
    let b1 = b.1 in
    let r = range.depth in
    omega arith
