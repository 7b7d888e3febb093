use Rattle.ms_acceptance_laws.proofs.Accepted.{each_formal_is_taken, limits_are_reached}
use Rattle.ms_acceptance_laws.proofs.laws.limits.Goals as goal

pub returns-clause-taken : goal.returns-clause-taken
returns-clause-taken c = each_formal_is_taken

pub returns-clause-reached : goal.returns-clause-reached
returns-clause-reached c = limits_are_reached
