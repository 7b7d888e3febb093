use Rattle.def_satisfaction.proofs.laws.rows.Goals as goal
use Rattle.def_satisfaction.proofs.Canonical.{sat_is_full_sat, dsat_is_full_dsat, only_is_any, dsat_needs_no_signature}

pub returns : goal.returns
returns c = record { sat = sat_is_full_sat; dsat = dsat_is_full_dsat; only = only_is_any; unsigned = dsat_needs_no_signature }
