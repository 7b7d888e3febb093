use Rattle.ms_psbt_line_laws.proofs.Commands.{psbt_reports_texts_plainly}
use Rattle.ms_psbt_line_laws.proofs.laws.plain.Goals as goal

pub returns : goal.returns
returns c = psbt_reports_texts_plainly
