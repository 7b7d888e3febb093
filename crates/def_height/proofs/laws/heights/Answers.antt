use Rattle.def_height.proofs.laws.heights.Goals as goal
use Rattle.def_height.proofs.Found.{height_exists, height_is_unique}

pub returns : goal.returns
returns c = record { exists = height_exists; unique = height_is_unique }
