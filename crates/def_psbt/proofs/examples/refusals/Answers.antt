-- The examples, each computed.
use Rattle.std.proofs.Common.{refl}
use Rattle.def_psbt.proofs.OnLiterals.{psbt_on_literals}
use Rattle.def_psbt.proofs.examples.refusals.Goals as goal

pub returns-clause-source : goal.returns-clause-source
unfolding psbt_on_literals
returns-clause-source c = (refl, refl, refl, refl)

pub returns-clause-size : goal.returns-clause-size
unfolding psbt_on_literals
returns-clause-size c = (refl, refl, refl, refl)

pub returns-clause-pair : goal.returns-clause-pair
unfolding psbt_on_literals
returns-clause-pair c = (refl, refl, refl)

pub returns-clause-value : goal.returns-clause-value
unfolding psbt_on_literals
returns-clause-value c = (refl, refl, refl, refl, refl)
