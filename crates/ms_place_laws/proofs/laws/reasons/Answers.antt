-- The laws are proved in a file of their own.
use Rattle.ms_place_laws.proofs.Reasons.{as_good, places_as_good}
use Rattle.ms_place_laws.proofs.laws.reasons.Goals as goal

pub returns-clause-reasons : goal.returns-clause-reasons
returns-clause-reasons c = as_good

pub returns-clause-places : goal.returns-clause-places
returns-clause-places c = places_as_good
