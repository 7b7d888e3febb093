use Rattle.std.proofs.Common.{◌≡◌, ◌++◌, drop}
use Rattle.std.specs.List.{flat_map}
use Rattle.def_spend.specs.Input.{Spend}
use Rattle.def_psbt_answer.specs.Verified.{passed_line}
use Rattle.ms_input.specs.Signing.{IsAsked}
use Rattle.ms_psbt_report.proofs.verifying.push_passed_lines.Given as goal

-- the lines so far and those of the pairs that are left
abbrev pub invariant-loop-pair : goal.invariant-loop-pair
invariant-loop-pair l =
    (spend : Spend) → IsAsked spend l.check →
    l.report.items ++ flat_map (passed_line spend l.check.script) (drop l.pair-index l.pairs)
    ≡ l.initial.report.items ++ flat_map (passed_line spend l.check.script) l.pairs
