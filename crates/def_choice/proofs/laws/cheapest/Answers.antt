use Rattle.def_choice.proofs.laws.cheapest.Goals as goal
use Rattle.def_choice.proofs.Chosen.{cheapest_is_lightest, dissatisfaction_is_lightest, unsigned_is_found}

pub returns : goal.returns
returns c = record { lightest = cheapest_is_lightest; dissatisfaction = dissatisfaction_is_lightest; unsigned = unsigned_is_found }
