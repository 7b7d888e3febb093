-- The names of the members of a plan file.
use Rattle.std.specs.Prelude.{codes}
use Rattle.def_script.specs.Bytes.{Bytes}
use Rattle.def_plan.specs.declared.PlanMember.{PlanMember}
use Rattle.def_plan.specs.declared.PlanMember.TheVariants as member

-- the name of a member, in files and in reports; in reports the file as a whole has one too
abbrev pub plan_member_name : PlanMember → Bytes
plan_member_name member.Whole = codes "file"
plan_member_name member.Version = codes "version"
plan_member_name member.Sequence = codes "sequence"
plan_member_name member.Locktime = codes "locktime"
plan_member_name member.Keys = codes "keys"
plan_member_name member.Preimages = codes "preimages"
