-- Abstract policies: conditions over keys, hash locks and timelocks (Bitcoin Core's and BIP 379's atoms), joined by
-- 'all', 'any' and 'so many of'.
use Rattle.std.specs.Prelude.{ℕ, List, [], ◌∷◌}
use Rattle.def_hash.specs.declared.HashKind.{HashKind}
use Rattle.def_script.specs.Bytes.{Bytes}
use Rattle.def_tree.specs.Tree.{Key}
use Rattle.def_policy.specs.declared.Join.{Join}
use Rattle.def_policy.specs.declared.Join.TheVariants as join

mutual
  pub data Policy : Type 0 where
    -- what is never true, and what always is
    never : Policy
    always : Policy
    -- a signature of the key
    key : (key : Key) → Policy
    -- a timelock, relative or absolute
    older : (n : ℕ) → Policy
    after : (n : ℕ) → Policy
    -- a preimage of a hash value
    hash : (kind : HashKind) → (value : Bytes) → Policy
    -- each part, one part, k of the parts
    all : (parts : Policies) → Policy
    any : (parts : Policies) → Policy
    thresh : (k : ℕ) → (parts : Policies) → Policy

  -- a list of policies, which the language wants as a type of its own beside `Policy`
  pub data Policies : Type 0 where
    none : Policies
    more : (x : Policy) → (xs : Policies) → Policies

-- the same list as a plain one, and back
abbrev pub list_of : Policies → List Policy
list_of none = []
list_of (more x xs) = x ∷ list_of xs

abbrev pub policies_of : List Policy → Policies
policies_of [] = none
policies_of (x ∷ xs) = more x (policies_of xs)

-- these parts, joined
abbrev pub joining : Join → Policies → Policy
joining join.All parts = all parts
joining join.Any parts = any parts
