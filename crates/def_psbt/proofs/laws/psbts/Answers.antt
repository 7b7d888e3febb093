use Rattle.def_psbt.proofs.Reading.{read_is_written}
use Rattle.def_psbt.proofs.Writing.{written_is_read_back}
use Rattle.def_psbt.proofs.laws.psbts.Goals as goal

pub returns-clause-read_back : goal.returns-clause-read_back
returns-clause-read_back c = written_is_read_back

pub returns-clause-one_spelling : goal.returns-clause-one_spelling
returns-clause-one_spelling c = read_is_written
