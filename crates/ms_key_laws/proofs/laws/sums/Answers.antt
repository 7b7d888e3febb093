-- Each law is proved in a file of its own.
use Rattle.ms_key_laws.proofs.Printed.{texts_have_sums}
use Rattle.ms_key_laws.proofs.Whole.{read_again}
use Rattle.ms_key_laws.proofs.laws.sums.Goals as goal

pub returns-clause-have : goal.returns-clause-have
returns-clause-have c = texts_have_sums

pub returns-clause-again : goal.returns-clause-again
returns-clause-again c text own sum utf8 answers is short = read_again text own utf8 answers sum is short
