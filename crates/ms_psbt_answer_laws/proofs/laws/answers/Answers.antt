use Rattle.ms_psbt_answer_laws.proofs.laws.answers.Goals as goal
use Rattle.ms_psbt_answer_laws.proofs.Unique.{one_answer, one_reading}

pub returns : goal.returns
returns c = record { one = one_answer; one_reading = one_reading }
