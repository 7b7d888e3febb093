-- The size of a policy, and which policies the calls take.
use Rattle.std.specs.Prelude.{ℕ, ◌+◌, ◌^◌, ◌<◌, ◌≤◌, max, ⊤}
use Rattle.def_policy.specs.Policy.{Policy, Policies, never, always, key, older, after, hash, all, any, thresh, none, more}

-- how many policies are in it: itself, and all parts of parts
abbrev mutual
  pub size : Policy → ℕ
  size never = 1
  size always = 1
  size (key k) = 1
  size (older n) = 1
  size (after n) = 1
  size (hash kind value) = 1
  size (all parts) = size_of parts + 1
  size (any parts) = size_of parts + 1
  size (thresh k parts) = size_of parts + 1

  pub size_of : Policies → ℕ
  size_of none = 0
  size_of (more x xs) = size x + size_of xs

-- how deep it is: a policy without parts is 1 deep
abbrev mutual
  pub depth : Policy → ℕ
  depth never = 1
  depth always = 1
  depth (key k) = 1
  depth (older n) = 1
  depth (after n) = 1
  depth (hash kind value) = 1
  depth (all parts) = depth_of parts + 1
  depth (any parts) = depth_of parts + 1
  depth (thresh k parts) = depth_of parts + 1

  pub depth_of : Policies → ℕ
  depth_of none = 0
  depth_of (more x xs) = max (depth x) (depth_of xs)

-- the most policies in one, and the deepest: a miniscript in range has no larger policy and no deeper one
abbrev pub MOST_POLICIES : ℕ
MOST_POLICIES = 262144

abbrev pub MOST_POLICY_DEPTH : ℕ
MOST_POLICY_DEPTH = 514

-- the operand of a timelock in range (BIP 65, BIP 112)
pub record IsLock (n : ℕ) : Type 0 where
  pub least : 1 ≤ n
  pub most : n < 2 ^ 31

-- each timelock's is
abbrev mutual
  pub HasLocks : Policy → Type 0
  HasLocks never = ⊤
  HasLocks always = ⊤
  HasLocks (key k) = ⊤
  HasLocks (older n) = IsLock n
  HasLocks (after n) = IsLock n
  HasLocks (hash kind value) = ⊤
  HasLocks (all parts) = HaveLocks parts
  HasLocks (any parts) = HaveLocks parts
  HasLocks (thresh k parts) = HaveLocks parts

  pub HaveLocks : Policies → Type 0
  HaveLocks none = ⊤
  HaveLocks (more x xs) = HasLocks x × HaveLocks xs
