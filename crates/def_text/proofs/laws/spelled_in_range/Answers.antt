-- The law is proved in a file of its own.
use Rattle.def_text.proofs.SpelledInRange.{spelled_in_range}
use Rattle.def_text.proofs.laws.spelled_in_range.Goals as goal

pub returns : goal.returns
returns c = spelled_in_range
