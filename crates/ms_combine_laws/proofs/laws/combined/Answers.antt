use Rattle.ms_combine_laws.proofs.Keys.{has_same_keys, has_same_transaction}
use Rattle.ms_combine_laws.proofs.Again.{is_read_again, holds_each_part, goes_on, one_is_itself}
use Rattle.ms_combine_laws.proofs.laws.combined.Goals as goal

pub returns-clause-read : goal.returns-clause-read
returns-clause-read c = is_read_again c.given.ensures.sound c.psbts.ensures.read_back

pub returns-clause-transaction : goal.returns-clause-transaction
returns-clause-transaction c = has_same_transaction c.given.ensures.sound

pub returns-clause-keys : goal.returns-clause-keys
returns-clause-keys c = has_same_keys c.given.ensures.sound

pub returns-clause-alone : goal.returns-clause-alone
returns-clause-alone c = one_is_itself c.psbts.ensures.one_spelling

pub returns-clause-again : goal.returns-clause-again
returns-clause-again c = holds_each_part c.given.ensures.sound

pub returns-clause-first : goal.returns-clause-first
returns-clause-first c = goes_on
