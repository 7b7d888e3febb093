-- The lines of a plan whose keys are asked where they have no signature.
use Rattle.std.proofs.Common.{◌≡◌, ◌++◌, Option, Some, None, refl}
use Rattle.std.specs.List.{flat_map}
use Rattle.std.specs.Option.{option_map}
use Rattle.def_script.specs.Bytes.{Bytes}
use Rattle.def_assets.specs.Assets.{Assets}
use Rattle.def_plan.specs.Plan.{Plan}
use Rattle.def_answer.specs.Plan.{ask_line, weight_line}
use Rattle.def_psbt_answer.specs.Lines.{no_plan_line}
use Rattle.def_psbt_answer.specs.Report.{plan_lines}
use Rattle.ms_input.specs.Asked.{asked}

-- the lines of a plan of which all keys are asked
abbrev pub asked_lines : Option Plan → Bytes
asked_lines None = no_plan_line
asked_lines (Some plan) = flat_map ask_line plan.keys ++ weight_line plan.weight

pub lines_asked : (assets : Assets) (plan : Option Plan) → asked_lines (option_map (asked assets) plan) ≡ plan_lines assets plan
lines_asked assets None = refl
lines_asked assets (Some plan) = refl
