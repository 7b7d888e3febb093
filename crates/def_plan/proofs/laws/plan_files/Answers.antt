use Rattle.def_plan.proofs.FileGiven.{plan_file_gives_plan, plans_want_no_memory}
use Rattle.def_plan.proofs.laws.plan_files.Goals as goal

pub returns-clause-plan : goal.returns-clause-plan
returns-clause-plan c = plan_file_gives_plan

pub returns-clause-no_memory : goal.returns-clause-no_memory
returns-clause-no_memory c = plans_want_no_memory
