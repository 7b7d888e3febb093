use Rattle.def_limits.proofs.laws.limits.Goals as goal
use Rattle.def_limits.proofs.Greatest.{limits_exist, limits_are_unique}

pub returns : goal.returns
returns c = record { exist = limits_exist; unique = limits_are_unique }
