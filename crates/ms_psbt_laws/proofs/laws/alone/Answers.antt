use Rattle.ms_psbt_laws.proofs.laws.alone.Goals as goal
use Rattle.ms_psbt_laws.proofs.AloneMaps.{map_decides_alone}

pub returns : goal.returns
returns c = record { map = map_decides_alone }
