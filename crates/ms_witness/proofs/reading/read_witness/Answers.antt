use Rattle.std.proofs.Common.{arith, ap, subst, ◌∙◌}
use Rattle.ms_witness.specs.Reading.{read_witness}
use Rattle.ms_witness.specs.Answering.{Gives}
use Rattle.ms_witness.proofs.Witnesses.{is_spelled, witness_is_read_back}
use Rattle.ms_witness.proofs.reading.read_witness.Goals as goal

pub returns-clause-spelled : goal.returns-clause-spelled
returns-clause-spelled c = is_spelled c.args.bytes.now c.whole_witness.result (λ i. omega (arith, c.type_inv.bytes i)) c.whole_witness.ensures

pub returns-clause-read_back : goal.returns-clause-read_back
returns-clause-read_back c = λ stack script short e. subst (λ reading. Gives c.whole_witness.result reading) (ap read_witness e ∙ witness_is_read_back stack script short) c.whole_witness.ensures
