use Rattle.std.proofs.Common.{sym, subst}
use Rattle.def_plan.specs.FileLaws.{IsPlanFile}
use Rattle.ms_plan_file.proofs.Usable.{file_usable}
use Rattle.ms_plan_file.proofs.plan_file.read_plan.Goals as goal

pub file_of_parts-requires : goal.file_of_parts-requires
file_of_parts-requires c = file_usable _ _ _ c.in-Ok.ensures c.in-Ok-plan_in.ensures

pub returns-in-Ok-plan_in-clause-usable : goal.returns-in-Ok-plan_in-clause-usable
returns-in-Ok-plan_in-clause-usable c = subst IsPlanFile (sym c.file_of_parts.ensures) (file_usable _ _ _ c.in-Ok.ensures c.in-Ok-plan_in.ensures)
