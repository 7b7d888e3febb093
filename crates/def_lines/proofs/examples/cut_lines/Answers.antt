-- The examples, each computed.
use Rattle.def_lines.proofs.examples.cut_lines.Goals as goal
use Rattle.std.proofs.Common.{refl}
use Rattle.def_lines.proofs.OnLiterals.{lines_on_literals}

pub returns : goal.returns
unfolding lines_on_literals
returns c = record {
  no_line = refl;
  one_feed = refl;
  two_lines = refl;
  no_last_feed = refl;
  carriage_return = refl;
  cut_inside = refl;
}
