use Rattle.ms_way_laws.proofs.Below.{met_below}
use Rattle.ms_way_laws.proofs.laws.below.Goals as goal

pub returns : goal.returns
returns c = met_below
