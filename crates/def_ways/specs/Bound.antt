-- How far ways are counted: by the locks of the policy, and its hash values that stand several times.
use Rattle.std.specs.Prelude.{ℕ, ◌+◌, ◌*◌, ◌^◌, ◌%◌, ◌==◌, not, nat_lt, bit_and, Bool, false, List, [], ◌∷◌, ◌++◌, length, filter, filter_map, Option, Some, None, if◌then◌else◌}
use Rattle.std.specs.List.{list_any}
use Rattle.def_machine.specs.Locks.{LOCKTIME_THRESHOLD, SEQUENCE_LOCKTIME_TYPE_FLAG}
use Rattle.def_tree.specs.Tree.{Tree}
use Rattle.def_policy.specs.Policy.{Policy, Policies, older, after, hash, all, any, thresh, none, more}
use Rattle.def_ways.specs.declared.Delay.{Delay}
use Rattle.def_ways.specs.declared.Delay.TheVariants.{Blocks, Units}
use Rattle.def_ways.specs.declared.Moment.{Moment}
use Rattle.def_ways.specs.declared.Moment.TheVariants.{Height, Time}
use Rattle.def_ways.specs.Secret.{Secret, preimage, same}
use Rattle.def_ways.specs.Enough.{policy_of}

-- the parts of a policy that have no parts
abbrev mutual
  pub leaves : Policy → List Policy
  leaves (all parts) = leaves_of parts
  leaves (any parts) = leaves_of parts
  leaves (thresh k parts) = leaves_of parts
  leaves part = part ∷ []

  pub leaves_of : Policies → List Policy
  leaves_of none = []
  leaves_of (more x xs) = leaves x ++ leaves_of xs

-- the lock that the operand of `older` asks for: of its bits the lowest 16 count, and bit 22, which tells units from blocks
-- (BIP 112)
abbrev pub delay_of : ℕ → Delay
delay_of n = if bit_and n SEQUENCE_LOCKTIME_TYPE_FLAG == 0 then Blocks (n % 2 ^ 16) else Units (n % 2 ^ 16)

abbrev pub moment_of : ℕ → Moment
moment_of n = if nat_lt n LOCKTIME_THRESHOLD then Height n else Time n

abbrev pub delay_in : Policy → Option Delay
delay_in (older n) = Some (delay_of n)
delay_in part = None

abbrev pub moment_in : Policy → Option Moment
moment_in (after n) = Some (moment_of n)
moment_in part = None

abbrev pub hash_in : Policy → Option Secret
hash_in (hash kind value) = Some (preimage kind value)
hash_in part = None

abbrev pub same_delay : Delay → Delay → Bool
same_delay (Blocks n) (Blocks m) = n == m
same_delay (Units n) (Units m) = n == m
same_delay delay other = false

abbrev pub same_moment : Moment → Moment → Bool
same_moment (Height n) (Height m) = n == m
same_moment (Time n) (Time m) = n == m
same_moment moment other = false

-- each of a list once
abbrev pub once : {A : Type 0} → (A → A → Bool) → List A → List A
once equal [] = []
once equal (x ∷ xs) = x ∷ filter (λ y. not (equal x y)) (once equal xs)

abbrev pub delays : Policy → List Delay
delays policy = once same_delay (filter_map delay_in (leaves policy))

abbrev pub moments : Policy → List Moment
moments policy = once same_moment (filter_map moment_in (leaves policy))

-- the hash values that stand several times
abbrev pub repeated : List Secret → List Secret
repeated [] = []
repeated (secret ∷ rest) = if list_any (same secret) rest then secret ∷ filter (λ other. not (same secret other)) (repeated rest) else repeated rest

abbrev pub settings : Policy → ℕ
settings policy =
    (1 + length (delays policy)) * (1 + length (moments policy)) * 3 ^ length (repeated (filter_map hash_in (leaves policy)))

-- the most settings
abbrev pub MOST_SETTINGS : ℕ
MOST_SETTINGS = 65536

-- a tree has too many of them for its ways to be counted
abbrev pub too_many : Tree → Bool
too_many tree = nat_lt MOST_SETTINGS (settings (policy_of tree))
