use Rattle.ms_answer_laws.proofs.laws.listings.Goals as goal
use Rattle.ms_answer_laws.proofs.Standing.{instructions_stand}

pub returns : goal.returns
returns c = record { stand = instructions_stand }
