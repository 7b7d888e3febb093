use Rattle.def_sane.proofs.laws.reasons.Goals as goal
use Rattle.def_sane.proofs.TheLimits.{reasons_are_by_limits}
use Rattle.def_sane.proofs.Meanings.{valid_means_within, sane_means_under}

pub returns : goal.returns
returns c = record { by_limits = reasons_are_by_limits; valid = valid_means_within; sane = sane_means_under }
