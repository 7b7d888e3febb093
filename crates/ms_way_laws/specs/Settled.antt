-- The sets of a policy in a setting: its locks are settled, and so are some of its hash values. All other leaves are asked
-- for, each by itself, so that the parts of a policy have nothing in common.
use Rattle.std.specs.Prelude.{◌≡◌, ◌↔◌, ⊤, ℕ, nat_le, ◌&&◌, Bool, true, false, List, [], ◌∷◌, Option, Some, None}
use Rattle.def_hash.specs.declared.HashKind.{HashKind}
use Rattle.def_script.specs.Bytes.{Bytes}
use Rattle.def_policy.specs.Policy.{Policy, Policies, never, always, key, older, after, hash, all, any, thresh, none, more}
use Rattle.def_policy.specs.Truth.{how_many}
use Rattle.def_policy.specs.Laws.{count}
use Rattle.ms_way_laws.specs.Parts.{Part, IsPart, IsLeast, AreLeast}

pub record Setting : Type 0 where
  pub older : ℕ → Bool
  pub after : ℕ → Bool
  -- whether a hash value is known, where that is settled
  pub known : HashKind → Bytes → Option Bool

-- a set of the leaves of a policy: a leaf is taken or not, and of several parts there is a set of each
mutual
  pub data Choice : Type 0 where
    leaf : (taken : Bool) → Choice
    node : (parts : Choices) → Choice

  pub data Choices : Type 0 where
    ended : Choices
    next : (x : Choice) → (xs : Choices) → Choices

abbrev pub list_of_choices : Choices → List Choice
list_of_choices ended = []
list_of_choices (next x xs) = x ∷ list_of_choices xs

-- each leaf that is taken in the first is taken in the second
abbrev mutual
  pub IsWithin : Choice → Choice → Type 0
  IsWithin (leaf a) (leaf b) = a ≡ true → b ≡ true
  IsWithin (leaf a) (node ys) = ⊥
  IsWithin (node xs) (leaf b) = ⊥
  IsWithin (node xs) (node ys) = AreAllWithin xs ys

  pub AreAllWithin : Choices → Choices → Type 0
  AreAllWithin ended ended = ⊤
  AreAllWithin ended (next y ys) = ⊥
  AreAllWithin (next x xs) ended = ⊥
  AreAllWithin (next x xs) (next y ys) = IsWithin x y × AreAllWithin xs ys

-- a set is one of the policy
abbrev mutual
  pub fits : Policy → Choice → Bool
  fits (all parts) (node xs) = fit parts xs
  fits (any parts) (node xs) = fit parts xs
  fits (thresh k parts) (node xs) = fit parts xs
  fits (all parts) (leaf a) = false
  fits (any parts) (leaf a) = false
  fits (thresh k parts) (leaf a) = false
  fits policy (leaf a) = true
  fits policy (node xs) = false

  pub fit : Policies → Choices → Bool
  fit none ended = true
  fit none (next x xs) = false
  fit (more p ps) ended = false
  fit (more p ps) (next x xs) = fits p x && fit ps xs

-- the set that takes nothing
abbrev mutual
  pub nothing : Policy → Choice
  nothing (all parts) = node (nothings parts)
  nothing (any parts) = node (nothings parts)
  nothing (thresh k parts) = node (nothings parts)
  nothing policy = leaf false

  pub nothings : Policies → Choices
  nothings none = ended
  nothings (more p ps) = next (nothing p) (nothings ps)

abbrev pub is_taken : Choice → Bool
is_taken (leaf a) = a
is_taken (node xs) = false

-- what is settled, or else what is taken
abbrev pub settled_or : Option Bool → Bool → Bool
settled_or None taken = taken
settled_or (Some known) taken = known

-- the policy holds in the setting with what is taken
abbrev mutual
  pub holds : Setting → Policy → Choice → Bool
  holds s never x = false
  holds s always x = true
  holds s (key k) x = is_taken x
  holds s (older n) x = s.older n
  holds s (after n) x = s.after n
  holds s (hash kind value) x = settled_or (s.known kind value) (is_taken x)
  holds s (all parts) (node xs) = nat_le (count parts) (how_many (hold s parts xs))
  holds s (any parts) (node xs) = nat_le 1 (how_many (hold s parts xs))
  holds s (thresh k parts) (node xs) = nat_le k (how_many (hold s parts xs))
  holds s (all parts) (leaf a) = false
  holds s (any parts) (leaf a) = false
  holds s (thresh k parts) (leaf a) = false

  pub hold : Setting → Policies → Choices → List Bool
  hold s none xs = []
  hold s (more p ps) ended = []
  hold s (more p ps) (next x xs) = holds s p x ∷ hold s ps xs

abbrev pub part : Setting → Policy → Part Choice
part s policy = record { fits = fits policy; nothing = nothing policy; holds = holds s policy }

abbrev pub parts : Setting → Policies → List (Part Choice)
parts s none = []
parts s (more p ps) = part s p ∷ parts s ps

-- a policy is a part: with more taken it still holds
abbrev pub PolicyIsPart : Type 0
PolicyIsPart = (s : Setting) (policy : Policy) → IsPart Choice IsWithin (part s policy)

-- and a least set of so many parts is least with so many of them
abbrev pub LeastOfThreshold : Type 0
LeastOfThreshold =
    (s : Setting) (k : ℕ) (ps : Policies) (xs : Choices) →
    IsLeast Choice IsWithin (part s (thresh k ps)) (node xs) ↔ AreLeast Choice IsWithin k (parts s ps) (list_of_choices xs)
