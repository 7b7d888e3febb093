-- What a plan file that isn't refused gives, and which refusal never comes.
use Rattle.std.specs.Prelude.{◌≡◌, ◌≢◌, [], Ok, Err}
use Rattle.def_script.specs.Bytes.{Bytes}
use Rattle.def_files.specs.Laws.{AreFewAssets}
use Rattle.def_plan.specs.declared.PlanFault.TheVariants as fault
use Rattle.def_plan.specs.Lengths.{AreLengths}
use Rattle.def_plan.specs.PlanFile.{PlanFile, plan_file_of}

-- what a plan wants of a file: assets without signatures, and lengths of signatures
pub record IsPlanFile (file : PlanFile) : Type 0 where
  pub held : AreFewAssets file.assets
  pub unsigned : file.assets.pairs ≡ []
  pub lengths : AreLengths file.table

abbrev pub PlanFileGivesPlan : Type 0
PlanFileGivesPlan = (bytes : Bytes) (file : PlanFile) → plan_file_of bytes ≡ Ok file → IsPlanFile file

-- no plan file is refused for want of memory
abbrev pub PlansWantNoMemory : Type 0
PlansWantNoMemory = (bytes : Bytes) → plan_file_of bytes ≢ Err fault.Memory
