-- Keys computed.
use Rattle.std.proofs.Common.{refl}
use Rattle.hex.proofs.OnLiterals.{hex_on_literals}
use Rattle.def_text.proofs.examples.words_hold.Goals as goal

pub returns-clause-upper_case : goal.returns-clause-upper_case
unfolding hex_on_literals
returns-clause-upper_case c = refl

pub returns-clause-uncompressed : goal.returns-clause-uncompressed
unfolding hex_on_literals
returns-clause-uncompressed c = refl
