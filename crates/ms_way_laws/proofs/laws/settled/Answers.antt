use Rattle.ms_way_laws.proofs.Leasts.{leasts_are_least}
use Rattle.ms_way_laws.proofs.Settled.{policy_is_part, least_of_threshold}
use Rattle.ms_way_laws.proofs.laws.settled.Goals as goal

pub returns : goal.returns
returns c = record { part = policy_is_part; threshold = least_of_threshold; listed = leasts_are_least }
