-- Each law is proved in a file of its own subject.
use Rattle.ms_place_laws.proofs.Points.{keys_have_points}
use Rattle.ms_place_laws.proofs.Private.{private_is_refused}
use Rattle.ms_place_laws.proofs.laws.keys.Goals as goal

pub returns-clause-points : goal.returns-clause-points
returns-clause-points c = keys_have_points c.keys.ensures.point c.keys.ensures.infinity c.keys.ensures.key

pub returns-clause-private : goal.returns-clause-private
returns-clause-private c = private_is_refused
