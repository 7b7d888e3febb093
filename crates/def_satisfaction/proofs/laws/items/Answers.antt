use Rattle.def_satisfaction.proofs.laws.items.Goals as goal
use Rattle.def_satisfaction.proofs.OfBytes.{sat_is_of_bytes, dsat_is_of_bytes}

pub returns : goal.returns
returns c = record { sat = sat_is_of_bytes; dsat = dsat_is_of_bytes }
