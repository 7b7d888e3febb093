-- The examples, each computed.
use Rattle.std.proofs.Common.{refl}
use Rattle.def_combine.proofs.OnLiterals.{combine_on_literals}
use Rattle.def_combine.proofs.examples.combinations.Goals as goal

pub returns-clause-one : goal.returns-clause-one
unfolding combine_on_literals
returns-clause-one c = refl

pub returns-clause-new_keys : goal.returns-clause-new_keys
unfolding combine_on_literals
returns-clause-new_keys c = refl

pub returns-clause-three : goal.returns-clause-three
unfolding combine_on_literals
returns-clause-three c = refl
