-- The report of `plan`, and the refusal of a plan file.
use Rattle.std.specs.Prelude.{ℕ, ◌++◌, codes, decimal, flat_map, []}
use Rattle.hex.specs.Hex.{encode_lower}
use Rattle.def_script.specs.Bytes.{Bytes}
use Rattle.def_plan.specs.declared.PlanFault.{PlanFault}
use Rattle.def_plan.specs.declared.PlanFault.TheVariants as plan_fault
use Rattle.def_plan.specs.Names.{plan_member_name}
use Rattle.def_plan.specs.Plan.{Plan}
use Rattle.def_answer.specs.Lines.{line}

-- the refusal of a plan file
abbrev pub plan_file_line : PlanFault → Bytes
plan_file_line plan_fault.NotJson = line (codes "refused file NotJson")
plan_file_line (plan_fault.Shape m) = line (codes "refused file Shape " ++ plan_member_name m)
plan_file_line (plan_fault.Number m) = line (codes "refused file Number " ++ plan_member_name m)
plan_file_line (plan_fault.Hex m i) = line (codes "refused file Hex " ++ plan_member_name m ++ codes " " ++ decimal i)
plan_file_line (plan_fault.KeyForm i) = line (codes "refused file KeyForm " ++ decimal i)
plan_file_line (plan_fault.Length i) = line (codes "refused file Length " ++ decimal i)
plan_file_line (plan_fault.PreimageLength i) = line (codes "refused file PreimageLength " ++ decimal i)
plan_file_line (plan_fault.TooMany m) = line (codes "refused file TooMany " ++ plan_member_name m)
plan_file_line (plan_fault.RepeatedKey i) = line (codes "refused file RepeatedKey " ++ decimal i)
plan_file_line plan_fault.Memory = []

-- a key to ask for a signature
abbrev pub ask_line : (key : Bytes) → Bytes
ask_line key = line (codes "ask " ++ encode_lower key)

abbrev pub weight_line : (weight : ℕ) → Bytes
weight_line weight = line (codes "weight at most " ++ decimal weight)

unfoldable pub plan_report : Plan → Bytes
plan_report plan = flat_map ask_line plan.keys ++ weight_line plan.weight
