-- The law is proved in a file of its own.
use Rattle.def_text.proofs.PrintedSpells.{printed_is_spelled}
use Rattle.def_text.proofs.laws.printed_spells.Goals as goal

pub returns : goal.returns
returns c = printed_is_spelled
