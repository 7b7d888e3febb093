-- Truths and printed forms computed.
use Rattle.std.proofs.Common.{refl}
use Rattle.std.specs.Fmt.{digits}
use Rattle.hex.proofs.OnLiterals.{hex_on_literals}
use Rattle.def_hash.proofs.Computing.{decode_pairs}
use Rattle.def_machine.specs.Locks.{older_holds}
use Rattle.def_policy.proofs.examples.truth.Goals as goal

pub returns : goal.returns
unfolding hex_on_literals decode_pairs older_holds digits
returns c = record {
  truths = (refl, refl, refl, refl);
  so_many = (refl, refl);
  printed = (refl, refl, refl, refl, refl);
}
