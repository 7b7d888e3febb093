use Rattle.def_lines.proofs.Counted.{one_each}
use Rattle.ms_psbt_line_laws.specs.Psbt.{psbt_answers}
use Rattle.ms_psbt_line_laws.proofs.Commands.{psbt_reports_texts_plainly}
use Rattle.ms_psbt_line_laws.proofs.laws.one.Goals as goal

pub returns : goal.returns
returns c = one_each psbt_answers psbt_reports_texts_plainly
