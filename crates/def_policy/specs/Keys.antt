-- How many keys have to sign.
use Rattle.std.specs.Prelude.{◌≡◌, ℕ, ◌≤◌, IsTrue, List, [], ◌∷◌, ◌++◌, length, Option, Some, None}
use Rattle.std.specs.List.{IsDistinct}
use Rattle.std.specs.Str.{bytes_eq}
use Rattle.def_tree.specs.Tree.{Key}
use Rattle.def_policy.specs.Policy.{Policy, Policies, never, always, key, older, after, hash, all, any, thresh, none, more}
use Rattle.def_policy.specs.Truth.{is_true, with_keys}

-- the keys of a policy
abbrev mutual
  pub keys : Policy → List Key
  keys never = []
  keys always = []
  keys (key k) = k ∷ []
  keys (older n) = []
  keys (after n) = []
  keys (hash kind value) = []
  keys (all parts) = keys_of parts
  keys (any parts) = keys_of parts
  keys (thresh k parts) = keys_of parts

  pub keys_of : Policies → List Key
  keys_of none = []
  keys_of (more x xs) = keys x ++ keys_of xs

-- no key stands twice
abbrev pub HasDistinctKeys : Policy → Type 0
HasDistinctKeys policy = IsDistinct bytes_eq (keys policy)

-- the policy is true where these keys sign and every hash and lock is met
abbrev pub KeysSuffice : Policy → List Key → Type 0
KeysSuffice policy signers = IsTrue (is_true (with_keys signers) policy)

-- so many keys suffice: a set of them does, and no smaller one
pub record IsLeastNumber (policy : Policy) (n : ℕ) : Type 0 where
  pub signers : List Key
  pub distinct : IsDistinct bytes_eq signers
  pub size : length signers ≡ n
  pub suffices : KeysSuffice policy signers
  pub least : (others : List Key) → KeysSuffice policy others → n ≤ length others

-- the least number of keys that suffice, or none exactly where no keys do
abbrev pub AreLeastKeys : Policy → Option ℕ → Type 0
AreLeastKeys policy (Some n) = IsLeastNumber policy n
AreLeastKeys policy None = (signers : List Key) → ¬ KeysSuffice policy signers
