use Rattle.std.proofs.Common.{◌≡◌, ◌++◌, drop}
use Rattle.std.specs.List.{flat_map}
use Rattle.std.specs.String.{string_bytes}
use Rattle.def_answer.specs.Satisfy.{item_line}
use Rattle.ms_report.proofs.satisfactions.push_items.Given as goal

-- the lines so far and those of the items that are left
abbrev pub invariant-loop-i : goal.invariant-loop-i
invariant-loop-i l = string_bytes l.report ++ flat_map item_line (drop l.i l.stack) ≡ string_bytes l.initial.report ++ flat_map item_line l.stack
