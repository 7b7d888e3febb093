use Rattle.std.proofs.Common.{◌≡◌, ◌++◌, drop}
use Rattle.std.specs.List.{flat_map}
use Rattle.std.specs.String.{string_bytes}
use Rattle.ms_trace.specs.Scaffolding.Brief.{check_word}
use Rattle.ms_trace.proofs.changes.push_checks.Given as goal

-- the pairs so far and those that are left
abbrev pub invariant-loop-pair : goal.invariant-loop-pair
invariant-loop-pair l =
    string_bytes l.report ++ flat_map check_word (drop l.pair-index l.checks) ≡ string_bytes l.initial.report ++ flat_map check_word l.checks
