use Rattle.ms_update_laws.proofs.Whole.{is_read_again, loses_nothing, holds_what_belongs, stays_updated}
use Rattle.ms_update_laws.proofs.laws.updated.Goals as goal

pub returns-clause-read : goal.returns-clause-read
returns-clause-read c = is_read_again c.psbts.ensures.read_back

pub returns-clause-kept : goal.returns-clause-kept
returns-clause-kept c = loses_nothing

pub returns-clause-holds : goal.returns-clause-holds
returns-clause-holds c = holds_what_belongs

pub returns-clause-again : goal.returns-clause-again
returns-clause-again c = stays_updated
