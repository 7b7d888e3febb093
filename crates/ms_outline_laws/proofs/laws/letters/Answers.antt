-- The law is proved in a file of its own.
use Rattle.ms_outline_laws.proofs.Fitting.{letter_lets_pass}
use Rattle.ms_outline_laws.proofs.laws.letters.Goals as goal

pub returns : goal.returns
returns c = record { passes = letter_lets_pass }
