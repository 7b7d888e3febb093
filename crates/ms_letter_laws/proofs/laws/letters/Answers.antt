use Rattle.ms_letter_laws.proofs.laws.letters.Goals as goal
use Rattle.ms_letter_laws.proofs.NodeLetters.{letters_of}

pub returns : goal.returns
returns c = record { letters = letters_of }
