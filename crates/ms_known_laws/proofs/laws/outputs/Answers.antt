-- The law is proved in a file of its own.
use Rattle.ms_known_laws.proofs.Outputs.{knows_known}
use Rattle.ms_known_laws.proofs.laws.outputs.Goals as goal

pub returns : goal.returns
returns c = knows_known
