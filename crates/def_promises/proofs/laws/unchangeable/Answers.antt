use Rattle.def_promises.proofs.laws.unchangeable.Goals as goal
use Rattle.def_promises.proofs.Unchangeable.{unchangeable_is_non_malleable}

pub returns : goal.returns
returns c = record { non_malleable = unchangeable_is_non_malleable }
