-- Which locks hold with the numbers of an offer: those that are no later than its own.
use Rattle.std.specs.Prelude.{◌≡◌, ℕ, ◌^◌, ◌<◌, ◌≤◌, Some, IfSome}
use Rattle.def_machine.specs.Locks.{older_holds, after_holds}
use Rattle.def_ways.specs.Offer.{Offer, IsDelay, IsMoment, numbers_of, no_later, no_later_moment}
use Rattle.def_ways.specs.Bound.{delay_of, moment_of}

-- `older(n)` holds exactly where the offer has a relative lock that is no less than that of n
abbrev pub OlderHolds : Type 0
OlderHolds =
    (offer : Offer) (n : ℕ) → IfSome offer.delay IsDelay → n < 2 ^ 31 →
    older_holds n (numbers_of offer) ≡ no_later (Some (delay_of n)) offer.delay

-- and `after(n)` where it has such an absolute one
abbrev pub AfterHolds : Type 0
AfterHolds =
    (offer : Offer) (n : ℕ) → IfSome offer.delay IsDelay → IfSome offer.moment IsMoment → 1 ≤ n →
    after_holds n (numbers_of offer) ≡ no_later_moment (Some (moment_of n)) offer.moment
