use Rattle.ms_line_laws.proofs.Commands.{msat_reports_plainly}
use Rattle.ms_line_laws.proofs.laws.plain.Goals as goal

pub returns : goal.returns
returns c = msat_reports_plainly
