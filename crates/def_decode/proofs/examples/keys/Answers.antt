use Rattle.def_decode.proofs.examples.keys.Goals as goal
use Rattle.def_decode.proofs.Computed.{first_of_two, not_listed}

pub returns-clause-first_of_two : goal.returns-clause-first_of_two
returns-clause-first_of_two c = first_of_two

pub returns-clause-not_listed : goal.returns-clause-not_listed
returns-clause-not_listed c = not_listed
