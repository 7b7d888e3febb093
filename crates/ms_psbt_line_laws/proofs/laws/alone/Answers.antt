use Rattle.def_lines.proofs.Each.{answered_alone}
use Rattle.ms_psbt_line_laws.specs.Psbt.{psbt_answers}
use Rattle.ms_psbt_line_laws.proofs.laws.alone.Goals as goal

pub returns : goal.returns
returns c = answered_alone psbt_answers
