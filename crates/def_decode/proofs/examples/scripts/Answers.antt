use Rattle.def_decode.proofs.examples.scripts.Goals as goal
use Rattle.def_decode.proofs.Computed.{moved_scripts, moved_types}

pub returns-clause-moved_scripts : goal.returns-clause-moved_scripts
returns-clause-moved_scripts c = moved_scripts

pub returns-clause-moved_types : goal.returns-clause-moved_types
returns-clause-moved_types c = moved_types
