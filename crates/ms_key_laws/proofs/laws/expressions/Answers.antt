-- The law is proved in a file of its own.
use Rattle.ms_key_laws.proofs.Read.{descriptor_public}
use Rattle.ms_key_laws.proofs.laws.expressions.Goals as goal

pub returns : goal.returns
returns c = descriptor_public
