use Rattle.def_address.proofs.Addresses.{address_gives_output, address_is_of_one_output}
use Rattle.def_address.proofs.laws.addresses.Goals as goal

pub returns-clause-output : goal.returns-clause-output
returns-clause-output c = address_gives_output

pub returns-clause-one : goal.returns-clause-one
returns-clause-one c = address_is_of_one_output
