use Rattle.ms_way_laws.proofs.SettledLists.{settled_are_enough}
use Rattle.ms_way_laws.proofs.laws.settled_hash_values.Goals as goal

pub returns : goal.returns
returns c = settled_are_enough
