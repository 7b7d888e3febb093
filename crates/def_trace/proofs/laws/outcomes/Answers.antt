use Rattle.def_trace.proofs.laws.outcomes.Goals as goal
use Rattle.def_trace.proofs.Outcomes.{checks_told, place_told}

pub returns-clause-checks : goal.returns-clause-checks
returns-clause-checks c = checks_told

pub returns-clause-place : goal.returns-clause-place
returns-clause-place c = place_told
