-- Which keys to ask for a signature, as plain bytes and a number.
use Rattle.std.specs.Prelude.{ℕ, Result, option_map}
use Rattle.std.specs.List.{flat_map}
use Rattle.def_script.specs.Bytes.{Bytes}
use Rattle.def_tree.specs.Tree.{Key, Tree}
use Rattle.def_sane.specs.Unfit.{first_unfit}
use Rattle.def_plan.specs.declared.PlanFault.{PlanFault}
use Rattle.def_plan.specs.Plan.{Plan, plan_of}
use Rattle.def_plan.specs.PlanFile.{PlanFile}
use Rattle.def_answer.specs.Reading.{Reading}
use Rattle.ms_calls.specs.Reasons.{code_of_plan_file}
use Rattle.ms_calls.specs.TextReply.{TextReply, told, text_refused, file_refused, no_satisfaction, text_given, with_file, where_one}

pub record Asked : Type 0 where
  -- the keys of a plan, one after the other
  pub keys : Bytes
  -- its weight
  pub weight : ℕ

abbrev pub asked : Plan → Asked
asked plan = record { keys = flat_map (λ (key : Key). key) plan.keys; weight = plan.weight }

-- the plan of a tree by a file, where there is one
abbrev pub asked_by_file : Tree → PlanFile → TextReply Asked
asked_by_file tree file = where_one (option_map asked (plan_of tree file.assets file.table))

-- the plan of a sane text, by what arrays give
abbrev pub asked_given : (held : Result PlanFile PlanFault) → Tree → TextReply Asked
asked_given held tree = with_file code_of_plan_file (asked_by_file tree) held

-- of a text
abbrev pub plan_given : (held : Result PlanFile PlanFault) → Reading → TextReply Asked
plan_given held = text_given first_unfit (asked_given held)

-- its keys, and its weight
abbrev pub asked_keys : TextReply Asked → TextReply Bytes
asked_keys (told found) = told found.keys
asked_keys (text_refused reason) = text_refused reason
asked_keys (file_refused reason) = file_refused reason
asked_keys no_satisfaction = no_satisfaction

abbrev pub asked_weight : TextReply Asked → TextReply ℕ
asked_weight (told found) = told found.weight
asked_weight (text_refused reason) = text_refused reason
asked_weight (file_refused reason) = file_refused reason
asked_weight no_satisfaction = no_satisfaction
