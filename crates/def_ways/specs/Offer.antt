-- An offer: some of the keys and hash values of a miniscript, at most one relative lock and at most one absolute one.
use Rattle.std.specs.Prelude.{◌≡◌, ◌⊎◌, ⊤, ℕ, ◌+◌, ◌^◌, ◌<◌, ◌≤◌, ◌&&◌, nat_le, Bool, true, false, List, [], ◌∷◌, Option, Some, None, IfSome}
use Rattle.std.specs.List.{list_any, list_all}
use Rattle.def_machine.specs.declared.Locks.{Locks}
use Rattle.def_machine.specs.Locks.{LOCKTIME_THRESHOLD, SEQUENCE_LOCKTIME_TYPE_FLAG}
use Rattle.def_tree.specs.Tree.{Tree}
use Rattle.def_ways.specs.declared.Delay.{Delay}
use Rattle.def_ways.specs.declared.Delay.TheVariants.{Blocks, Units}
use Rattle.def_ways.specs.declared.Moment.{Moment}
use Rattle.def_ways.specs.declared.Moment.TheVariants.{Height, Time}
use Rattle.def_ways.specs.Secret.{Secret, same, secrets}

pub record Offer : Type 0 where
  pub delay : Option Delay
  pub moment : Option Moment
  pub secrets : List Secret

-- a relative lock has 16 bits (BIP 68)
abbrev pub IsDelay : Delay → Type 0
IsDelay (Blocks n) = n < 2 ^ 16
IsDelay (Units n) = n < 2 ^ 16

-- an absolute lock is below the threshold of BIP 65 for a height and from there on for a time; an operand has 31 bits
abbrev pub IsMoment : Moment → Type 0
IsMoment (Height n) = (1 ≤ n) × (n < LOCKTIME_THRESHOLD)
IsMoment (Time n) = (LOCKTIME_THRESHOLD ≤ n) × (n < 2 ^ 31)

-- some of a list, in its order
abbrev pub AreSomeOf : List Secret → List Secret → Type 0
AreSomeOf [] all = ⊤
AreSomeOf (secret ∷ rest) [] = ⊥
AreSomeOf (secret ∷ rest) (other ∷ all) = ((secret ≡ other) × AreSomeOf rest all) ⊎ AreSomeOf (secret ∷ rest) all

-- an offer of a tree
pub record IsOffer (tree : Tree) (offer : Offer) : Type 0 where
  pub delay : IfSome offer.delay IsDelay
  pub moment : IfSome offer.moment IsMoment
  pub secrets : AreSomeOf offer.secrets (secrets tree)

-- the least numbers with which the locks hold: a relative lock wants version 2 (BIP 68), and Bitcoin Core relays none
-- below 1
abbrev pub version_of : Option Delay → ℕ
version_of None = 1
version_of (Some delay) = 2

abbrev pub sequence_of : Option Delay → ℕ
sequence_of None = 0
sequence_of (Some (Blocks n)) = n
sequence_of (Some (Units n)) = SEQUENCE_LOCKTIME_TYPE_FLAG + n

abbrev pub locktime_of : Option Moment → ℕ
locktime_of None = 0
locktime_of (Some (Height n)) = n
locktime_of (Some (Time n)) = n

abbrev pub numbers_of : Offer → Locks
numbers_of offer = record {
  version = version_of offer.delay;
  sequence = sequence_of offer.delay;
  locktime = locktime_of offer.moment;
}

-- a lock is missing, or is of the same unit as the other and no greater
abbrev pub no_later : Option Delay → Option Delay → Bool
no_later None other = true
no_later (Some (Blocks n)) (Some (Blocks m)) = nat_le n m
no_later (Some (Units n)) (Some (Units m)) = nat_le n m
no_later delay other = false

abbrev pub no_later_moment : Option Moment → Option Moment → Bool
no_later_moment None other = true
no_later_moment (Some (Height n)) (Some (Height m)) = nat_le n m
no_later_moment (Some (Time n)) (Some (Time m)) = nat_le n m
no_later_moment moment other = false

abbrev pub has : List Secret → Secret → Bool
has some secret = list_any (same secret) some

-- an offer is no more than another one
abbrev pub no_more : Offer → Offer → Bool
no_more offer other =
    list_all (has other.secrets) offer.secrets && no_later offer.delay other.delay && no_later_moment offer.moment other.moment
