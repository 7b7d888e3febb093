-- The examples, each computed.
use Rattle.std.proofs.Common.{refl}
use Rattle.def_psbt.proofs.OnLiterals.{psbt_on_literals}
use Rattle.def_psbt.proofs.examples.later_refusals.Goals as goal

pub returns-clause-version : goal.returns-clause-version
unfolding psbt_on_literals
returns-clause-version c = (refl, refl, refl, refl)

pub returns-clause-needed : goal.returns-clause-needed
unfolding psbt_on_literals
returns-clause-needed c = (refl, refl, refl)

pub returns-clause-joined : goal.returns-clause-joined
unfolding psbt_on_literals
returns-clause-joined c = (refl, refl, refl, refl)

pub returns-clause-output : goal.returns-clause-output
unfolding psbt_on_literals
returns-clause-output c = (refl, refl)
