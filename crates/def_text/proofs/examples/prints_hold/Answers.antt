-- Printed forms computed.
use Rattle.std.proofs.Common.{refl}
use Rattle.std.specs.Fmt.{digits}
use Rattle.hex.proofs.OnLiterals.{hex_on_literals}
use Rattle.def_text.proofs.examples.prints_hold.Goals as goal

pub returns : goal.returns
unfolding hex_on_literals digits
returns c = record {
  sugar = refl;
  pk = refl;
  number = refl;
}
