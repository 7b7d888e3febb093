use Rattle.ms_way_laws.proofs.StandIns.{enough_is_satisfied}
use Rattle.ms_way_laws.proofs.laws.satisfied.Goals as goal

pub returns : goal.returns
returns c = enough_is_satisfied
