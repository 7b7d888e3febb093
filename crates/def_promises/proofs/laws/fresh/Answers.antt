use Rattle.def_promises.proofs.laws.fresh.Goals as goal
use Rattle.def_promises.proofs.FreshItems.{fresh_has_item}

pub returns : goal.returns
returns c = record { item = fresh_has_item }
