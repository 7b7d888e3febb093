use Rattle.def_policy.proofs.laws.least_keys.Goals as goal
use Rattle.def_policy.proofs.LeastKeys.{least_keys_are_least, one_least}

pub returns : goal.returns
returns c = record { least = least_keys_are_least; one = one_least }
