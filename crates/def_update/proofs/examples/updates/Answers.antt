-- The examples, each computed.
use Rattle.std.proofs.Common.{refl}
use Rattle.def_update.proofs.OnLiterals.{update_on_literals}
use Rattle.def_update.proofs.examples.updates.Goals as goal

pub returns-clause-input : goal.returns-clause-input
unfolding update_on_literals
returns-clause-input c = refl

pub returns-clause-output : goal.returns-clause-output
unfolding update_on_literals
returns-clause-output c = refl

pub returns-clause-redeem : goal.returns-clause-redeem
unfolding update_on_literals
returns-clause-redeem c = refl

pub returns-clause-behind : goal.returns-clause-behind
unfolding update_on_literals
returns-clause-behind c = refl

pub returns-clause-again : goal.returns-clause-again
unfolding update_on_literals
returns-clause-again c = refl

pub returns-clause-same : goal.returns-clause-same
unfolding update_on_literals
returns-clause-same c = refl

pub returns-clause-barred : goal.returns-clause-barred
unfolding update_on_literals
returns-clause-barred c = (refl, refl)
