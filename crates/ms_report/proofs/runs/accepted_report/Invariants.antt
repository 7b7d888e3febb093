use Rattle.std.proofs.Common.{◌≡◌, ◌++◌, drop}
use Rattle.std.specs.List.{flat_map}
use Rattle.std.specs.String.{string_bytes}
use Rattle.def_answer.specs.Run.{check_line}
use Rattle.ms_report.proofs.runs.accepted_report.Given as goal

abbrev pub invariant-loop-pair : goal.invariant-loop-pair
invariant-loop-pair l =
    string_bytes l.text ++ flat_map check_line (drop l.pair-index l.checks) ≡ string_bytes l.initial.text ++ flat_map check_line l.checks
