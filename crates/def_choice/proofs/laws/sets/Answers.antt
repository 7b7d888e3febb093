use Rattle.def_choice.proofs.laws.sets.Goals as goal
use Rattle.def_choice.proofs.Listed.{sets_are_all, sets_are_in_order}

pub returns : goal.returns
returns c = record { all = sets_are_all; in_order = sets_are_in_order }
