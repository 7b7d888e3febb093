use Rattle.std.proofs.Common.{◌≡◌, ◌++◌, drop}
use Rattle.std.specs.List.{flat_map}
use Rattle.def_answer.specs.Plan.{ask_line}
use Rattle.ms_psbt_report.proofs.trees.push_keys.Given as goal

-- the lines so far and those of the keys that are left
abbrev pub invariant-loop-key : goal.invariant-loop-key
invariant-loop-key l = l.report.items ++ flat_map ask_line (drop l.key-index l.keys) ≡ l.initial.report.items ++ flat_map ask_line l.keys
