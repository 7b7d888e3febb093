-- The least number of keys that suffice, from the parts up. That it is the least one is proved in `least_keys`.
use Rattle.std.specs.Prelude.{ℕ, suc, zero, ◌+◌, min, List, [], ◌∷◌, Option, Some, None}
use Rattle.def_policy.specs.Policy.{Policy, Policies, never, always, key, older, after, hash, all, any, thresh, none, more}

abbrev pub lesser : Option ℕ → Option ℕ → Option ℕ
lesser None b = b
lesser (Some a) None = Some a
lesser (Some a) (Some b) = Some (min a b)

abbrev pub plus : ℕ → Option ℕ → Option ℕ
plus n None = None
plus n (Some m) = Some (n + m)

-- the least sum of k of the numbers: with the first one or without it
abbrev pub least_sum : (k : ℕ) → List ℕ → Option ℕ
least_sum zero numbers = Some 0
least_sum (suc k) [] = None
least_sum (suc k) (n ∷ numbers) = lesser (plus n (least_sum k numbers)) (least_sum (suc k) numbers)

-- how many parts there are
abbrev pub count : Policies → ℕ
count none = 0
count (more x xs) = count xs + 1

-- one more number, where there is one
abbrev pub and_also : Option ℕ → List ℕ → List ℕ
and_also None numbers = numbers
and_also (Some n) numbers = n ∷ numbers

abbrev mutual
  pub cost : Policy → Option ℕ
  cost never = None
  cost always = Some 0
  cost (key k) = Some 1
  cost (older n) = Some 0
  cost (after n) = Some 0
  cost (hash kind value) = Some 0
  cost (all parts) = least_sum (count parts) (costs parts)
  cost (any parts) = least_sum 1 (costs parts)
  cost (thresh k parts) = least_sum k (costs parts)

  pub costs : Policies → List ℕ
  costs none = []
  costs (more x xs) = and_also (cost x) (costs xs)
