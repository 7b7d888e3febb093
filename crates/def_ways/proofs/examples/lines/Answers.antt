-- The lines, each computed.
use Rattle.std.proofs.Common.{refl}
use Rattle.std.specs.Fmt.{digits}
use Rattle.hex.proofs.OnLiterals.{hex_on_literals}
use Rattle.def_ways.specs.Print.{way_line}
use Rattle.def_ways.proofs.examples.lines.Goals as goal

pub returns : goal.returns
unfolding hex_on_literals digits way_line
returns c = record { key = refl; later_key = refl; hash = refl }
