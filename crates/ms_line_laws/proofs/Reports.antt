-- The characters of whole reports.
use Rattle.std.proofs.Common.{ℕ, List, [], ◌∷◌, ◌++◌, length, refl}
use Rattle.std.specs.Prelude.{codes, decimal, flat_map}
use Rattle.hex.specs.Hex.{encode_lower}
use Rattle.def_script.specs.Bytes.{Bytes, IsBytes}
use Rattle.def_script.specs.Witness.{weight}
use Rattle.def_machine.specs.Run.{Outcome, accepted, refused}
use Rattle.def_tree.specs.Tree.{Key}
use Rattle.def_limits.specs.declared.Limits.{Limits}
use Rattle.def_files.specs.declared.AssetFault.{AssetFault}
use Rattle.def_files.specs.declared.AssetFault.TheVariants as file_fault
use Rattle.def_files.specs.declared.Member.{Member}
use Rattle.def_files.specs.declared.Member.TheVariants as member
use Rattle.def_files.specs.Json.{member_name}
use Rattle.def_plan.specs.declared.PlanFault.{PlanFault}
use Rattle.def_plan.specs.declared.PlanFault.TheVariants as plan_fault
use Rattle.def_plan.specs.declared.PlanMember.{PlanMember}
use Rattle.def_plan.specs.declared.PlanMember.TheVariants as plan_member
use Rattle.def_plan.specs.Names.{plan_member_name}
use Rattle.def_plan.specs.Plan.{Plan}
use Rattle.def_sane.specs.TheLimits.{the_limits}
use Rattle.def_answer.specs.Lines.{limits_text, limits_line}
use Rattle.def_answer.specs.Files.{file_line}
use Rattle.def_answer.specs.Plan.{plan_file_line, ask_line, weight_line, plan_report}
use Rattle.def_answer.specs.Run.{check_line, run_report, accepted_line}
use Rattle.def_answer.specs.Generated.{threshold_of, generated_tree, generated_assets}
use Rattle.def_answer.specs.Satisfy.{peak_of, outcome_with, item_digits, item_line}
use Rattle.def_answer.specs.Gen.{children_line, strict_line, cheapest_line, gen_report}
use Rattle.def_lines.proofs.Lists.{Every}
use Rattle.ms_line_laws.proofs.Machine.{ArePairsFound}
use Rattle.ms_line_laws.proofs.Plainly.{AreReported, reported, each_reported, decimal_reported, hex_reported}
use Rattle.ms_line_laws.proofs.Reported.{line_reported, worded, accepted_reported, script_refused_reported}

-- ---- words and numbers by turns

-- a word, a number, and what comes behind
pub counted : (front word : Bytes) (n : ℕ) → AreReported front → AreReported word → AreReported (front ++ word ++ decimal n)
counted front word n p q = reported (front ++ word) (decimal n) (reported front word p q) (decimal_reported n)

pub one_count : (word : Bytes) (n : ℕ) → AreReported word → AreReported (word ++ decimal n)
one_count word n p = reported word (decimal n) p (decimal_reported n)

-- ---- files

pub member_reported : (m : Member) → AreReported (member_name m)
member_reported member.Whole = refl
member_reported member.Version = refl
member_reported member.Sequence = refl
member_reported member.Locktime = refl
member_reported member.Signatures = refl
member_reported member.Preimages = refl
member_reported member.Script = refl
member_reported member.Witness = refl
member_reported member.Format = refl

pub plan_member_reported : (m : PlanMember) → AreReported (plan_member_name m)
plan_member_reported plan_member.Whole = refl
plan_member_reported plan_member.Version = refl
plan_member_reported plan_member.Sequence = refl
plan_member_reported plan_member.Locktime = refl
plan_member_reported plan_member.Keys = refl
plan_member_reported plan_member.Preimages = refl

pub file_line_reported : (f : AssetFault) → AreReported (file_line f)
file_line_reported file_fault.NotJson = refl
file_line_reported (file_fault.Shape m) = worded (codes "refused file Shape ") (member_name m) refl (member_reported m)
file_line_reported (file_fault.Number m) = worded (codes "refused file Number ") (member_name m) refl (member_reported m)
file_line_reported (file_fault.Hex m i) =
    line_reported (codes "refused file Hex " ++ member_name m ++ codes " " ++ decimal i)
    (counted (codes "refused file Hex " ++ member_name m) (codes " ") i (reported (codes "refused file Hex ") (member_name m) refl (member_reported m)) refl)
file_line_reported (file_fault.KeyForm i) = worded (codes "refused file KeyForm ") (decimal i) refl (decimal_reported i)
file_line_reported (file_fault.SigLength i) = worded (codes "refused file SigLength ") (decimal i) refl (decimal_reported i)
file_line_reported (file_fault.PreimageLength i) = worded (codes "refused file PreimageLength ") (decimal i) refl (decimal_reported i)
file_line_reported (file_fault.TooMany m) = worded (codes "refused file TooMany ") (member_name m) refl (member_reported m)
file_line_reported (file_fault.RepeatedKey i) = worded (codes "refused file RepeatedKey ") (decimal i) refl (decimal_reported i)
file_line_reported file_fault.Memory = refl

pub plan_file_line_reported : (f : PlanFault) → AreReported (plan_file_line f)
plan_file_line_reported plan_fault.NotJson = refl
plan_file_line_reported (plan_fault.Shape m) = worded (codes "refused file Shape ") (plan_member_name m) refl (plan_member_reported m)
plan_file_line_reported (plan_fault.Number m) = worded (codes "refused file Number ") (plan_member_name m) refl (plan_member_reported m)
plan_file_line_reported (plan_fault.Hex m i) =
    line_reported (codes "refused file Hex " ++ plan_member_name m ++ codes " " ++ decimal i)
    (counted (codes "refused file Hex " ++ plan_member_name m) (codes " ") i (reported (codes "refused file Hex ") (plan_member_name m) refl (plan_member_reported m)) refl)
plan_file_line_reported (plan_fault.KeyForm i) = worded (codes "refused file KeyForm ") (decimal i) refl (decimal_reported i)
plan_file_line_reported (plan_fault.Length i) = worded (codes "refused file Length ") (decimal i) refl (decimal_reported i)
plan_file_line_reported (plan_fault.PreimageLength i) = worded (codes "refused file PreimageLength ") (decimal i) refl (decimal_reported i)
plan_file_line_reported (plan_fault.TooMany m) = worded (codes "refused file TooMany ") (plan_member_name m) refl (plan_member_reported m)
plan_file_line_reported (plan_fault.RepeatedKey i) = worded (codes "refused file RepeatedKey ") (decimal i) refl (decimal_reported i)
plan_file_line_reported plan_fault.Memory = refl

-- ---- runs, plans and Scripts, of byte strings

check_reported : (pair : Bytes × Bytes) → IsBytes pair.0 → IsBytes pair.1 → AreReported (check_line pair)
check_reported pair key sig =
    line_reported (codes "check " ++ encode_lower pair.0 ++ codes " " ++ encode_lower pair.1)
    (reported (codes "check " ++ encode_lower pair.0 ++ codes " ") (encode_lower pair.1)
    (reported (codes "check " ++ encode_lower pair.0) (codes " ") (reported (codes "check ") (encode_lower pair.0) refl (hex_reported pair.0 key)) refl)
    (hex_reported pair.1 sig))

-- the report of a run over byte strings
pub outcome_reported : (outcome : Outcome) → ArePairsFound outcome → AreReported (run_report outcome)
unfolding run_report
outcome_reported (accepted ops peak checks) h =
    reported (accepted_line ops peak) (flat_map check_line checks) (accepted_reported ops peak)
    (each_reported check_line (λ pair. IsBytes pair.0 × IsBytes pair.1) (λ pair k. check_reported pair k.0 k.1) checks h)
outcome_reported (refused fault place) h = script_refused_reported fault place

pub ask_reported : (key : Key) → IsBytes key → AreReported (ask_line key)
ask_reported key h = line_reported (codes "ask " ++ encode_lower key) (reported (codes "ask ") (encode_lower key) refl (hex_reported key h))

pub plan_reported : (plan : Plan) → Every IsBytes plan.keys → AreReported (plan_report plan)
unfolding plan_report
plan_reported plan h =
    reported (flat_map ask_line plan.keys) (weight_line plan.weight) (each_reported ask_line IsBytes ask_reported plan.keys h)
    (line_reported (codes "weight at most " ++ decimal plan.weight) (one_count (codes "weight at most ") plan.weight refl))

pub item_digits_reported : (item : Bytes) → IsBytes item → AreReported (item_digits item)
item_digits_reported [] all = refl
item_digits_reported (byte ∷ item) all = hex_reported (byte ∷ item) all

item_reported : (item : Bytes) → IsBytes item → AreReported (item_line item)
item_reported item h = line_reported (codes "item " ++ item_digits item) (reported (codes "item ") (item_digits item) refl (item_digits_reported item h))

pub items_reported : (stack : List Bytes) → Every IsBytes stack → AreReported (flat_map item_line stack)
items_reported stack h = each_reported item_line IsBytes item_reported stack h

-- ---- limits, and what is made from a number

pub limits_reported : (limits : Limits) → AreReported (limits_text limits)
limits_reported limits =
    let a = codes "limits size " ++ decimal limits.size in
    let b = a ++ codes " ops " ++ decimal limits.ops in
    let c = b ++ codes " items " ++ decimal limits.items in
    counted c (codes " weight ") limits.weight
    (counted b (codes " items ") limits.items
    (counted a (codes " ops ") limits.ops (one_count (codes "limits size ") limits.size refl) refl) refl) refl

strict_reported : (stack : List Bytes) (outcome : Outcome) → AreReported (strict_line stack outcome)
strict_reported stack outcome =
    let a = codes "strict items " ++ decimal (length stack) in
    let b = a ++ codes " weight " ++ decimal (weight stack) in
    line_reported (b ++ codes " peak " ++ decimal (peak_of outcome))
    (counted b (codes " peak ") (peak_of outcome)
    (counted a (codes " weight ") (weight stack) (one_count (codes "strict items ") (length stack) refl) refl) refl)

cheapest_reported : (stack : List Bytes) → AreReported (cheapest_line stack)
cheapest_reported stack =
    let a = codes "cheapest items " ++ decimal (length stack) in
    line_reported (a ++ codes " weight " ++ decimal (weight stack))
    (counted a (codes " weight ") (weight stack) (one_count (codes "cheapest items ") (length stack) refl) refl)

pub gen_reported : (n : ℕ) (strict cheapest : List Bytes) → AreReported (gen_report n strict cheapest)
unfolding gen_report
gen_reported n strict cheapest =
    let a = codes "children " ++ decimal n in
    let one = children_line n (threshold_of n) in
    let two = limits_line (the_limits (generated_tree n)) in
    let three = strict_line strict (outcome_with (generated_tree n) (generated_assets n) strict) in
    reported (one ++ two ++ three) (cheapest_line cheapest)
    (reported (one ++ two) three
    (reported one two
    (line_reported (a ++ codes " threshold " ++ decimal (threshold_of n)) (counted a (codes " threshold ") (threshold_of n) (one_count (codes "children ") n refl) refl))
    (line_reported (limits_text (the_limits (generated_tree n))) (limits_reported (the_limits (generated_tree n)))))
    (strict_reported strict (outcome_with (generated_tree n) (generated_assets n) strict)))
    (cheapest_reported cheapest)
