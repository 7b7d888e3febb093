use Rattle.def_psbt.specs.Map.{pair_of_type}
use Rattle.ms_psbt.proofs.Fielding.{some_pair, no_pair_there}
use Rattle.ms_psbt.proofs.values.has.Goals as goal

pub returns-in-Some : goal.returns-in-Some
returns-in-Some c = λ forms map e. some_pair (pair_of_type c.args.type_number map.0) _ (c.in-Some.ensures forms map e)

pub returns-in-None : goal.returns-in-None
returns-in-None c = λ forms map e. no_pair_there (pair_of_type c.args.type_number map.0) (c.in-None.ensures forms map e)
