use Rattle.ms_psbt_laws.proofs.laws.existence.Goals as goal
use Rattle.ms_psbt_laws.proofs.Existing.{each_has_answer, each_is_read}

pub returns : goal.returns
returns c = record { answer = each_has_answer c.given.ensures.keys; reading = each_is_read c.given.ensures.keys }
