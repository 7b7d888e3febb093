use Rattle.def_trace.proofs.laws.places.Goals as goal
use Rattle.def_trace.proofs.Places.{placed_are_items, places_adjoin, places_grow}

pub returns-clause-items : goal.returns-clause-items
returns-clause-items c = placed_are_items

pub returns-clause-adjoin : goal.returns-clause-adjoin
returns-clause-adjoin c = places_adjoin

pub returns-clause-grow : goal.returns-clause-grow
returns-clause-grow c = places_grow
