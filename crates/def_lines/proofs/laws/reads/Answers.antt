use Rattle.def_lines.proofs.laws.reads.Goals as goal
use Rattle.def_lines.proofs.Counted.{read_back}
use Rattle.def_lines.specs.Msat.{msat_answers}

pub returns : goal.returns
returns c = read_back msat_answers
