-- The law is proved in a file of its own.
use Rattle.ms_outline_laws.proofs.Lines.{lines_are_the_tree}
use Rattle.ms_outline_laws.proofs.laws.trees.Goals as goal

pub returns : goal.returns
returns c = record { lines = lines_are_the_tree }
