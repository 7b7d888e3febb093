use Rattle.def_trace.proofs.laws.writers.Goals as goal
use Rattle.def_trace.proofs.Writing.{writers_of_script, writers_are_nodes}

pub returns-clause-script : goal.returns-clause-script
returns-clause-script c = writers_of_script

pub returns-clause-nodes : goal.returns-clause-nodes
returns-clause-nodes c = writers_are_nodes
