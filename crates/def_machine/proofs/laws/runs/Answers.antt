use Rattle.def_machine.proofs.laws.runs.Goals as goal
use Rattle.def_machine.proofs.Joined.{joined_steps, spelled_run}

pub returns-clause-joined : goal.returns-clause-joined
returns-clause-joined c = joined_steps

pub returns-clause-spelled : goal.returns-clause-spelled
returns-clause-spelled c = spelled_run
