use Rattle.def_lines.proofs.Counted.{read_back}
use Rattle.ms_psbt_line_laws.specs.Psbt.{psbt_answers}
use Rattle.ms_psbt_line_laws.proofs.laws.reads.Goals as goal

pub returns : goal.returns
returns c = read_back psbt_answers
