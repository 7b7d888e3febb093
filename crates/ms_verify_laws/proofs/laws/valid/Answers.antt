use Rattle.ms_verify_laws.proofs.laws.valid.Goals as goal
use Rattle.ms_verify_laws.proofs.Valid.{valid_is_accepted}

pub returns : goal.returns
returns c = record { accepted = valid_is_accepted }
