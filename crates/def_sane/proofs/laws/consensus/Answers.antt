use Rattle.def_sane.proofs.laws.consensus.Goals as goal
use Rattle.def_sane.proofs.Meanings.{valid_under_consensus, sane_under_consensus}

pub returns : goal.returns
returns c = record { valid = valid_under_consensus; sane = sane_under_consensus }
