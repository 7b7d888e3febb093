use Rattle.std.proofs.Common.{◌≡◌, ◌++◌, drop}
use Rattle.std.specs.List.{flat_map}
use Rattle.std.specs.String.{string_bytes}
use Rattle.def_answer.specs.Plan.{ask_line}
use Rattle.ms_report.proofs.plans.push_keys.Given as goal

-- the lines so far and those of the keys that are left
abbrev pub invariant-loop-key : goal.invariant-loop-key
invariant-loop-key l = string_bytes l.report ++ flat_map ask_line (drop l.key-index l.keys) ≡ string_bytes l.initial.report ++ flat_map ask_line l.keys
