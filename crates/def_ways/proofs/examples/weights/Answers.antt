-- The weights, each computed.
use Rattle.std.proofs.Common.{refl}
use Rattle.def_machine.specs.Locks.{older_holds}
use Rattle.def_ways.proofs.examples.weights.Goals as goal

pub returns : goal.returns
unfolding older_holds
returns c = record {
  key = λ p. record { stack = _; written = refl; weight = refl };
  later_key = λ p. record { stack = _; written = refl; weight = refl };
}
