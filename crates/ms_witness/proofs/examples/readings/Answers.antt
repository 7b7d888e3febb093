use Rattle.ms_witness.proofs.Computed.{small_witnesses, witness_faults, first_faults}
use Rattle.ms_witness.proofs.examples.readings.Goals as goal

pub returns-clause-small : goal.returns-clause-small
returns-clause-small c = small_witnesses

pub returns-clause-faults : goal.returns-clause-faults
returns-clause-faults c = witness_faults

pub returns-clause-first : goal.returns-clause-first
returns-clause-first c = first_faults
