-- What is read of a plan file can be planned by.
use Rattle.std.proofs.Common.{◌≡◌, inl, inr, Some, Ok, sym, ◌∙◌, ap}
use Rattle.serde_json.specs.Data.{Data}
use Rattle.def_script.specs.Bytes.{Bytes}
use Rattle.def_files.specs.Json.{reading}
use Rattle.def_files.specs.Refusals.{unless_any}
use Rattle.def_plan.specs.declared.PlanFault.TheVariants as fault
use Rattle.def_plan.specs.PlanFile.{PlanFile, plan_refusals, plan_in, given, plan_file_of}
use Rattle.def_plan.specs.FileLaws.{IsPlanFile}
use Rattle.def_plan.proofs.FileGiven.{plan_file_gives_plan}
use Rattle.ms_assets.specs.Parts.{IsOr}

pub file_usable : (bytes : Bytes) (value : Data) (file : PlanFile) → reading bytes ≡ Some value
    → IsOr fault.Memory (unless_any (plan_refusals value) (plan_in value)) (Ok file) → IsPlanFile file
unfolding plan_file_of
file_usable bytes value file read (inl e) = plan_file_gives_plan bytes file (ap given read ∙ sym e)
file_usable bytes value file read (inr e) = absurd (let no = e in cc)
