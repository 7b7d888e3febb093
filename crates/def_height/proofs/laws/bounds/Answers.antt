use Rattle.def_height.proofs.laws.bounds.Goals as goal
use Rattle.def_height.proofs.Bounds.{items_are_within_ops, height_is_within, height_is_low}

pub returns : goal.returns
returns c = record { items = items_are_within_ops; height = height_is_within; low = height_is_low }
