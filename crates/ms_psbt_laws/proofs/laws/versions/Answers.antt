use Rattle.ms_psbt_laws.proofs.laws.versions.Goals as goal
use Rattle.ms_psbt_laws.proofs.Others.{versions_agree}

pub returns : goal.returns
returns c = record { agree = versions_agree }
