use Rattle.def_sane.proofs.laws.limits.Goals as goal
use Rattle.def_sane.proofs.TheLimits.{they_are_limits, they_are_the_only}

pub returns : goal.returns
returns c = record { are = they_are_limits; only = they_are_the_only }
