-- The laws are proved in a file of their own.
use Rattle.ms_place_laws.proofs.Outputs.{addresses_give_outputs, addresses_are_of_one_output}
use Rattle.ms_place_laws.proofs.laws.addresses.Goals as goal

pub returns-clause-output : goal.returns-clause-output
returns-clause-output c = addresses_give_outputs

pub returns-clause-one : goal.returns-clause-one
returns-clause-one c = addresses_are_of_one_output
