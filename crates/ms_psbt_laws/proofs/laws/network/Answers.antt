use Rattle.ms_psbt_laws.proofs.laws.network.Goals as goal
use Rattle.ms_psbt_laws.proofs.FinalIds.{id_is_told, final_id_stays}
use Rattle.ms_psbt_laws.proofs.NetworkTexts.{network_is_read, id_stays}

pub returns : goal.returns
returns c = record { read = network_is_read c.given.ensures.sound; id = id_stays c.given.ensures.sound; told = id_is_told c.given.ensures.sound; before = final_id_stays c.given.ensures.sound }
