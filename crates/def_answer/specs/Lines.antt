-- The lines that reports of several commands have, and how long a file may be. Bytes are printed as lower-case digits,
-- numbers in decimal.
use Rattle.std.specs.Prelude.{ℕ, List, [], ◌∷◌, ◌++◌, codes, decimal, slice_index}
use Rattle.hex.specs.Hex.{encode_lower}
use Rattle.def_script.specs.Bytes.{Bytes}
use Rattle.def_machine.specs.Program.{program_of}
use Rattle.def_tree.specs.Tree.{Tree}
use Rattle.def_text.specs.declared.TextFault.{TextFault}
use Rattle.def_text.specs.declared.TextFault.TheVariants as text_fault
use Rattle.def_types.specs.declared.rule.Rule.{Rule}
use Rattle.def_types.specs.declared.rule.Rule.TheVariants as rule
use Rattle.def_limits.specs.declared.Limits.{Limits}
use Rattle.def_sane.specs.declared.Rules.{Rules}
use Rattle.def_sane.specs.declared.Rules.TheVariants.{Policy, Consensus}
use Rattle.def_sane.specs.declared.Unfit.{Unfit}
use Rattle.def_sane.specs.declared.Unfit.TheVariants as unfit
use Rattle.def_sane.specs.TheLimits.{the_limits}
use Rattle.def_answer.specs.TheHeight.{the_height}

-- how many bytes a file may have
abbrev pub MOST_FILE : ℕ
MOST_FILE = 1048576

-- a line ends with a line feed
abbrev pub line : Bytes → Bytes
line text = text ++ 10 ∷ []

-- ---- what is printed of a Script and of its limits

abbrev pub script_line : (script : Bytes) → Bytes
script_line script = line (codes "script " ++ encode_lower script)

abbrev pub program_line : (script : Bytes) → Bytes
program_line script = line (codes "program " ++ encode_lower (program_of script))

abbrev pub limits_text : Limits → Bytes
limits_text limits =
    codes "limits size " ++ decimal limits.size ++ codes " ops " ++ decimal limits.ops
    ++ codes " items " ++ decimal limits.items ++ codes " weight " ++ decimal limits.weight

abbrev pub limits_line : Limits → Bytes
limits_line limits = line (limits_text limits)

-- under consensus the height is told too, since nothing else bounds the items
abbrev pub limits_line_under : Rules → Limits → (height : ℕ) → Bytes
limits_line_under Policy limits height = limits_line limits
limits_line_under Consensus limits height = line (limits_text limits ++ codes " height " ++ decimal height)

-- the limits of a tree
abbrev pub tree_limits_line : Rules → Tree → Bytes
tree_limits_line rules tree = limits_line_under rules (the_limits tree) (the_height tree)

-- ---- refusals of texts

-- a place is a byte offset. Want of memory has no line
abbrev pub text_line : TextFault → Bytes
text_line text_fault.TooLong = line (codes "refused text TooLong")
text_line (text_fault.Syntax at) = line (codes "refused text Syntax at " ++ decimal at)
text_line (text_fault.TooDeep at) = line (codes "refused text TooDeep at " ++ decimal at)
text_line text_fault.Memory = []

-- the name of a rule
abbrev pub rule_name : Rule → Bytes
rule_name rule.OlderRange = codes "OlderRange"
rule_name rule.AfterRange = codes "AfterRange"
rule_name rule.AndOrX = codes "AndOrX"
rule_name rule.AndOrYZ = codes "AndOrYZ"
rule_name rule.AndVX = codes "AndVX"
rule_name rule.AndVY = codes "AndVY"
rule_name rule.AndBX = codes "AndBX"
rule_name rule.AndBY = codes "AndBY"
rule_name rule.OrBX = codes "OrBX"
rule_name rule.OrBZ = codes "OrBZ"
rule_name rule.OrCX = codes "OrCX"
rule_name rule.OrCZ = codes "OrCZ"
rule_name rule.OrDX = codes "OrDX"
rule_name rule.OrDZ = codes "OrDZ"
rule_name rule.OrIXZ = codes "OrIXZ"
rule_name rule.ThreshRange = codes "ThreshRange"
rule_name rule.ThreshFirst = codes "ThreshFirst"
rule_name rule.ThreshOther = codes "ThreshOther"
rule_name rule.MultiRange = codes "MultiRange"
rule_name rule.WrapA = codes "WrapA"
rule_name rule.WrapS = codes "WrapS"
rule_name rule.WrapC = codes "WrapC"
rule_name rule.WrapD = codes "WrapD"
rule_name rule.WrapV = codes "WrapV"
rule_name rule.WrapJ = codes "WrapJ"
rule_name rule.WrapN = codes "WrapN"
rule_name rule.AndOrE = codes "AndOrE"
rule_name rule.AndOrS = codes "AndOrS"
rule_name rule.OrBE = codes "OrBE"
rule_name rule.OrBS = codes "OrBS"
rule_name rule.OrCE = codes "OrCE"
rule_name rule.OrCS = codes "OrCS"
rule_name rule.OrDE = codes "OrDE"
rule_name rule.OrDS = codes "OrDS"
rule_name rule.OrIS = codes "OrIS"
rule_name rule.ThreshE = codes "ThreshE"
rule_name rule.ThreshS = codes "ThreshS"

-- of a tree, whose nodes have these offsets
abbrev pub offset_of : (offsets : List ℕ) → (node : ℕ) → Bytes
offset_of offsets node = decimal (slice_index offsets node)

abbrev pub unfit_line : (offsets : List ℕ) → Unfit → Bytes
unfit_line offsets (unfit.Rule at) =
    line (codes "refused text Rule " ++ rule_name at.rule ++ codes " at " ++ offset_of offsets at.node)
unfit_line offsets unfit.TopNotB = line (codes "refused text TopNotB")
unfit_line offsets (unfit.Size n) = line (codes "refused text Size " ++ decimal n)
unfit_line offsets (unfit.Ops n) = line (codes "refused text Ops " ++ decimal n)
unfit_line offsets (unfit.Items n) = line (codes "refused text Items " ++ decimal n)
unfit_line offsets (unfit.Malleable at) =
    line (codes "refused text Malleable " ++ rule_name at.rule ++ codes " at " ++ offset_of offsets at.node)
unfit_line offsets unfit.NoSignature = line (codes "refused text NoSignature")
unfit_line offsets (unfit.MixedLocks node) = line (codes "refused text MixedLocks at " ++ offset_of offsets node)
unfit_line offsets (unfit.RepeatedKey node) = line (codes "refused text RepeatedKey at " ++ offset_of offsets node)
