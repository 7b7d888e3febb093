-- The examples, each computed.
use Rattle.std.proofs.Common.{refl}
use Rattle.def_psbt.proofs.OnLiterals.{psbt_on_literals}
use Rattle.def_psbt.proofs.examples.readings.Goals as goal

pub returns-clause-bare : goal.returns-clause-bare
unfolding psbt_on_literals
returns-clause-bare c = refl

pub returns-clause-no_inputs : goal.returns-clause-no_inputs
unfolding psbt_on_literals
returns-clause-no_inputs c = refl

pub returns-clause-two_of_three : goal.returns-clause-two_of_three
unfolding psbt_on_literals
returns-clause-two_of_three c = refl

pub returns-clause-previous_transaction : goal.returns-clause-previous_transaction
unfolding psbt_on_literals
returns-clause-previous_transaction c = refl

pub returns-clause-preimage : goal.returns-clause-preimage
unfolding psbt_on_literals
returns-clause-preimage c = refl

pub returns-clause-three_inputs : goal.returns-clause-three_inputs
unfolding psbt_on_literals
returns-clause-three_inputs c = refl

pub returns-clause-base64 : goal.returns-clause-base64
unfolding psbt_on_literals
returns-clause-base64 c = refl
