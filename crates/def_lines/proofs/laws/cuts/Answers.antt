use Rattle.def_lines.proofs.laws.cuts.Goals as goal
use Rattle.def_lines.proofs.Cuts.{cuts_on, lines_alone}

pub returns : goal.returns
returns c = record { on = cuts_on; alone = lines_alone }
