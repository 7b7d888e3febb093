use Rattle.def_lines.proofs.Counted.{one_each}
use Rattle.def_lines.specs.Msat.{msat_answers}
use Rattle.ms_line_laws.proofs.Commands.{msat_reports_plainly}
use Rattle.ms_line_laws.proofs.laws.one.Goals as goal

pub returns : goal.returns
returns c = one_each msat_answers (λ words source code report low answer. msat_reports_plainly words source code report answer)
