use Rattle.def_trace.proofs.laws.readings.Goals as goal
use Rattle.def_trace.proofs.Acts.{passed}
use Rattle.def_trace.proofs.Rebuilt.{rebuilt}

pub returns-clause-rebuilt : goal.returns-clause-rebuilt
returns-clause-rebuilt c = rebuilt

pub returns-clause-passed : goal.returns-clause-passed
returns-clause-passed c = passed
