use Rattle.ms_answer_laws.proofs.laws.heights.Goals as goal
use Rattle.def_answer.proofs.TheHeight.{it_is_height, it_is_the_only}

pub returns : goal.returns
returns c = record { is = it_is_height; only = it_is_the_only }
