-- The examples, each computed.
use Rattle.std.proofs.Common.{refl}
use Rattle.def_combine.proofs.OnLiterals.{combine_on_literals}
use Rattle.def_combine.proofs.examples.refusals.Goals as goal

pub returns-clause-line : goal.returns-clause-line
unfolding combine_on_literals
returns-clause-line c = (refl, refl, refl, refl, refl)

pub returns-clause-other : goal.returns-clause-other
unfolding combine_on_literals
returns-clause-other c = (refl, refl)

pub returns-clause-lock_time : goal.returns-clause-lock_time
unfolding combine_on_literals
returns-clause-lock_time c = refl
