use Rattle.ms_witness.proofs.Witnesses.{witness_is_read_back, witness_has_one_spelling, witness_is_replayed}
use Rattle.ms_witness.proofs.laws.witnesses.Goals as goal

pub returns-clause-read_back : goal.returns-clause-read_back
returns-clause-read_back c = witness_is_read_back

pub returns-clause-one_spelling : goal.returns-clause-one_spelling
returns-clause-one_spelling c = witness_has_one_spelling

pub returns-clause-replayed : goal.returns-clause-replayed
returns-clause-replayed c = witness_is_replayed
