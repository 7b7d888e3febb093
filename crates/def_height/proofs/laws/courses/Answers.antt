use Rattle.def_height.proofs.laws.courses.Goals as goal
use Rattle.def_height.proofs.Rises.{rise_is_greatest}

pub returns : goal.returns
returns c = record { rise = rise_is_greatest }
