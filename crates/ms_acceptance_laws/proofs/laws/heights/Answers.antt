use Rattle.ms_acceptance_laws.proofs.Accepted.{each_formal_is_run, height_is_reached}
use Rattle.ms_acceptance_laws.proofs.laws.heights.Goals as goal

pub returns-clause-formal : goal.returns-clause-formal
returns-clause-formal c = each_formal_is_run

pub returns-clause-reached : goal.returns-clause-reached
returns-clause-reached c = height_is_reached
