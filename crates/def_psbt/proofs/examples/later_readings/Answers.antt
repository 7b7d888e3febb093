-- The examples, each computed.
use Rattle.std.proofs.Common.{refl}
use Rattle.def_psbt.proofs.OnLiterals.{psbt_on_literals}
use Rattle.def_psbt.proofs.examples.later_readings.Goals as goal

pub returns-clause-updated : goal.returns-clause-updated
unfolding psbt_on_literals
returns-clause-updated c = refl

pub returns-clause-bare : goal.returns-clause-bare
unfolding psbt_on_literals
returns-clause-bare c = refl

pub returns-clause-lock_times : goal.returns-clause-lock_times
unfolding psbt_on_literals
returns-clause-lock_times c = (refl, refl, refl, refl)
