-- What the machine answers to each text, and the printed form of each tree, computed.
use Rattle.std.proofs.Common.{refl}
use Rattle.std.specs.Fmt.{digits}
use Rattle.hex.proofs.OnLiterals.{hex_on_literals}
use Rattle.def_text.proofs.ByMachine.{read_as}
use Rattle.def_text.proofs.examples.forms_hold.Goals as goal

pub returns : goal.returns
unfolding hex_on_literals digits
returns c = record {
  constants = ((read_as _ _ _ refl refl refl, refl), (read_as _ _ _ refl refl refl, refl));
  keys = ((read_as _ _ _ refl refl refl, refl), (read_as _ _ _ refl refl refl, refl));
  locks = ((read_as _ _ _ refl refl refl, refl), (read_as _ _ _ refl refl refl, refl));
  hashes = (
    (read_as _ _ _ refl refl refl, refl),
    (read_as _ _ _ refl refl refl, refl),
    (read_as _ _ _ refl refl refl, refl),
    (read_as _ _ _ refl refl refl, refl),
  );
  multi = (read_as _ _ _ refl refl refl, refl);
  andor = (read_as _ _ _ refl refl refl, refl);
  pairs = (
    (read_as _ _ _ refl refl refl, refl),
    (read_as _ _ _ refl refl refl, refl),
    (read_as _ _ _ refl refl refl, refl),
    (read_as _ _ _ refl refl refl, refl),
    (read_as _ _ _ refl refl refl, refl),
    (read_as _ _ _ refl refl refl, refl),
  );
  thresh = (read_as _ _ _ refl refl refl, refl);
  wrappers = (
    (read_as _ _ _ refl refl refl, refl),
    (read_as _ _ _ refl refl refl, refl),
    (read_as _ _ _ refl refl refl, refl),
    (read_as _ _ _ refl refl refl, refl),
    (read_as _ _ _ refl refl refl, refl),
    (read_as _ _ _ refl refl refl, refl),
    (read_as _ _ _ refl refl refl, refl),
  );
  groups = ((read_as _ _ _ refl refl refl, refl), (read_as _ _ _ refl refl refl, refl));
  key_sugar = ((read_as _ _ _ refl refl refl, refl), (read_as _ _ _ refl refl refl, refl));
  and_n = (read_as _ _ _ refl refl refl, refl);
  letter_sugar = ((read_as _ _ _ refl refl refl, refl), (read_as _ _ _ refl refl refl, refl), (read_as _ _ _ refl refl refl, refl));
}
