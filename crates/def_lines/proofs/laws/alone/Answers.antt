use Rattle.def_lines.proofs.laws.alone.Goals as goal
use Rattle.def_lines.proofs.Each.{answered_alone}
use Rattle.def_lines.specs.Msat.{msat_answers}

pub returns : goal.returns
returns c = answered_alone msat_answers
