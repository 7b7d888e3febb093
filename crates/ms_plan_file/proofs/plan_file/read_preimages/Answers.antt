use Rattle.std.proofs.Common.{inr}
use Rattle.def_plan.specs.declared.PlanFault.TheVariants as fault
use Rattle.def_files.specs.AssetFile.{is_preimage}
use Rattle.ms_assets.proofs.Refusals.{at_none, at_some}
use Rattle.ms_plan_file.proofs.plan_file.read_preimages.Goals as goal

pub returns-in-Ok : goal.returns-in-Ok
returns-in-Ok c = (at_none is_preimage fault.PreimageLength c.args.strings.now c.in-Ok.ensures.0, c.in-Ok.ensures.1)

pub returns-in-Err-At : goal.returns-in-Err-At
returns-in-Err-At c = inr (at_some is_preimage fault.PreimageLength c.args.strings.now c.in-Err-At.place (rw c.in-Err-At.field-0-is at c.in-Err-At.ensures))
