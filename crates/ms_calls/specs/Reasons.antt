-- Refusals as plain numbers: kinds are numbered from 1 on, rules and members from 0, in the order of their definitions. The
-- length and the keys of what a plan is made by come last.
use Rattle.std.specs.Prelude.{ℕ, List, slice_index}
use Rattle.def_text.specs.declared.TextFault.{TextFault}
use Rattle.def_text.specs.declared.TextFault.TheVariants as text_fault
use Rattle.def_types.specs.declared.rule.Rule.{Rule}
use Rattle.def_types.specs.declared.rule.Rule.TheVariants as rule
use Rattle.def_sane.specs.declared.Unfit.{Unfit}
use Rattle.def_sane.specs.declared.Unfit.TheVariants as unfit
use Rattle.def_files.specs.declared.Member.{Member}
use Rattle.def_files.specs.declared.Member.TheVariants as member
use Rattle.def_files.specs.declared.AssetFault.{AssetFault}
use Rattle.def_files.specs.declared.AssetFault.TheVariants as file_fault
use Rattle.def_plan.specs.declared.PlanMember.{PlanMember}
use Rattle.def_plan.specs.declared.PlanMember.TheVariants as plan_member
use Rattle.def_plan.specs.declared.PlanFault.{PlanFault}
use Rattle.def_plan.specs.declared.PlanFault.TheVariants as plan_fault
use Rattle.ms_calls.specs.declared.reason.Reason.{Reason}

abbrev pub reason : (kind rule place number : ℕ) → Reason
reason kind rule place number = record { kind = kind; rule = rule; place = place; number = number }

-- there is none
abbrev pub no_reason : Reason
no_reason = reason 0 0 0 0

abbrev pub code_of_rule : Rule → ℕ
code_of_rule rule.OlderRange = 0
code_of_rule rule.AfterRange = 1
code_of_rule rule.AndOrX = 2
code_of_rule rule.AndOrYZ = 3
code_of_rule rule.AndVX = 4
code_of_rule rule.AndVY = 5
code_of_rule rule.AndBX = 6
code_of_rule rule.AndBY = 7
code_of_rule rule.OrBX = 8
code_of_rule rule.OrBZ = 9
code_of_rule rule.OrCX = 10
code_of_rule rule.OrCZ = 11
code_of_rule rule.OrDX = 12
code_of_rule rule.OrDZ = 13
code_of_rule rule.OrIXZ = 14
code_of_rule rule.ThreshRange = 15
code_of_rule rule.ThreshFirst = 16
code_of_rule rule.ThreshOther = 17
code_of_rule rule.MultiRange = 18
code_of_rule rule.WrapA = 19
code_of_rule rule.WrapS = 20
code_of_rule rule.WrapC = 21
code_of_rule rule.WrapD = 22
code_of_rule rule.WrapV = 23
code_of_rule rule.WrapJ = 24
code_of_rule rule.WrapN = 25
code_of_rule rule.AndOrE = 26
code_of_rule rule.AndOrS = 27
code_of_rule rule.OrBE = 28
code_of_rule rule.OrBS = 29
code_of_rule rule.OrCE = 30
code_of_rule rule.OrCS = 31
code_of_rule rule.OrDE = 32
code_of_rule rule.OrDS = 33
code_of_rule rule.OrIS = 34
code_of_rule rule.ThreshE = 35
code_of_rule rule.ThreshS = 36

-- of a text; a place is a byte offset
abbrev pub code_of_fault : TextFault → Reason
code_of_fault text_fault.TooLong = reason 1 0 0 0
code_of_fault (text_fault.Syntax at) = reason 2 0 at 0
code_of_fault (text_fault.TooDeep at) = reason 3 0 at 0
code_of_fault text_fault.Memory = no_reason

-- of a tree, whose nodes have these offsets; a number is what a limit comes to
abbrev pub code_of_reason : (offsets : List ℕ) → Unfit → Reason
code_of_reason offsets (unfit.Rule at) = reason 4 (code_of_rule at.rule) (slice_index offsets at.node) 0
code_of_reason offsets unfit.TopNotB = reason 5 0 0 0
code_of_reason offsets (unfit.Size n) = reason 6 0 0 n
code_of_reason offsets (unfit.Ops n) = reason 7 0 0 n
code_of_reason offsets (unfit.Items n) = reason 8 0 0 n
code_of_reason offsets (unfit.Malleable at) = reason 9 (code_of_rule at.rule) (slice_index offsets at.node) 0
code_of_reason offsets unfit.NoSignature = reason 10 0 0 0
code_of_reason offsets (unfit.MixedLocks node) = reason 11 0 (slice_index offsets node) 0
code_of_reason offsets (unfit.RepeatedKey node) = reason 12 0 (slice_index offsets node) 0

abbrev pub code_of_member : Member → ℕ
code_of_member member.Whole = 0
code_of_member member.Version = 1
code_of_member member.Sequence = 2
code_of_member member.Locktime = 3
code_of_member member.Signatures = 4
code_of_member member.Preimages = 5
code_of_member member.Script = 6
code_of_member member.Witness = 7
code_of_member member.Format = 8

-- of a file that is too long, and of one that is read; a rule is a member, and a place an element's
abbrev pub file_too_long : Reason
file_too_long = reason 13 0 0 0

abbrev pub code_of_file : AssetFault → Reason
code_of_file file_fault.NotJson = reason 14 0 0 0
code_of_file (file_fault.Shape m) = reason 15 (code_of_member m) 0 0
code_of_file (file_fault.Number m) = reason 16 (code_of_member m) 0 0
code_of_file (file_fault.Hex m i) = reason 17 (code_of_member m) i 0
code_of_file (file_fault.KeyForm i) = reason 18 0 i 0
code_of_file (file_fault.SigLength i) = reason 19 0 i 0
code_of_file (file_fault.PreimageLength i) = reason 20 0 i 0
code_of_file (file_fault.TooMany m) = reason 21 (code_of_member m) 0 0
code_of_file (file_fault.RepeatedKey i) = reason 22 0 i 0
code_of_file file_fault.Memory = no_reason

-- of what a plan is made by, whose other members are those of an asset file
abbrev pub code_of_plan_member : PlanMember → ℕ
code_of_plan_member plan_member.Whole = 0
code_of_plan_member plan_member.Version = 1
code_of_plan_member plan_member.Sequence = 2
code_of_plan_member plan_member.Locktime = 3
code_of_plan_member plan_member.Preimages = 5
code_of_plan_member plan_member.Keys = 9

abbrev pub code_of_plan_file : PlanFault → Reason
code_of_plan_file plan_fault.NotJson = reason 14 0 0 0
code_of_plan_file (plan_fault.Shape m) = reason 15 (code_of_plan_member m) 0 0
code_of_plan_file (plan_fault.Number m) = reason 16 (code_of_plan_member m) 0 0
code_of_plan_file (plan_fault.Hex m i) = reason 17 (code_of_plan_member m) i 0
code_of_plan_file (plan_fault.KeyForm i) = reason 18 0 i 0
code_of_plan_file (plan_fault.PreimageLength i) = reason 20 0 i 0
code_of_plan_file (plan_fault.TooMany m) = reason 21 (code_of_plan_member m) 0 0
code_of_plan_file (plan_fault.RepeatedKey i) = reason 22 0 i 0
code_of_plan_file (plan_fault.Length i) = reason 23 0 i 0
code_of_plan_file plan_fault.Memory = no_reason
