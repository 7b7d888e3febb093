use Rattle.ms_psbt_laws.proofs.examples.witnesses.Goals as goal
use Rattle.ms_psbt_laws.proofs.Computed.{some_witnesses}

pub returns : goal.returns
returns c = record { some = some_witnesses }
