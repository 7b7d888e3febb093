use Rattle.ms_way_laws.proofs.OneList.{one_list_of_ways}
use Rattle.ms_way_laws.proofs.laws.list.Goals as goal

pub returns : goal.returns
returns c = one_list_of_ways
