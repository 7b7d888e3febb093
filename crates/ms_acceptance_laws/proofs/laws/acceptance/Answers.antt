use Rattle.ms_acceptance_laws.proofs.laws.acceptance.Goals as goal
use Rattle.ms_acceptance_laws.proofs.Accepted.{canonical_is_accepted, canonical_has_course, inversion_of}

pub returns-clause-canonical : goal.returns-clause-canonical
returns-clause-canonical c = canonical_is_accepted

pub returns-clause-course : goal.returns-clause-course
returns-clause-course c = canonical_has_course

pub returns-clause-inversion : goal.returns-clause-inversion
returns-clause-inversion c = inversion_of
