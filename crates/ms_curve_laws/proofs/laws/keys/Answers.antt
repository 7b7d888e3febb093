-- Keys and their points.
use Rattle.ms_curve_laws.proofs.Keys.{key_has_its_point, no_key_of_infinity, point_has_its_key, key_is_that_of_its_point}
use Rattle.ms_curve_laws.proofs.laws.keys.Goals as goal

pub returns-clause-point : goal.returns-clause-point
returns-clause-point c = key_has_its_point

pub returns-clause-infinity : goal.returns-clause-infinity
returns-clause-infinity c = no_key_of_infinity

pub returns-clause-key : goal.returns-clause-key
returns-clause-key c = point_has_its_key

pub returns-clause-only : goal.returns-clause-only
returns-clause-only c = key_is_that_of_its_point
