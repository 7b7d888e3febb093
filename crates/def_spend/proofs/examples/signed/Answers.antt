use Rattle.def_spend.proofs.examples.signed.Goals as goal
use Rattle.def_spend.proofs.Computed.{signed_of_two, script_of_second, signed_by_type, no_hash_type}

pub returns-clause-of_two : goal.returns-clause-of_two
returns-clause-of_two c = signed_of_two

pub returns-clause-by_type : goal.returns-clause-by_type
returns-clause-by_type c = signed_by_type

pub returns-clause-no_hash_type : goal.returns-clause-no_hash_type
returns-clause-no_hash_type c = no_hash_type

pub returns-clause-script : goal.returns-clause-script
returns-clause-script c = script_of_second
