use Rattle.std.proofs.Common.{◌≡◌, ◌++◌, true, drop}
use Rattle.std.specs.List.{flat_map}
use Rattle.def_spend.specs.Fields.{signatures_in}
use Rattle.def_spend.specs.Input.{Spend}
use Rattle.def_psbt_answer.specs.Report.{checked_line}
use Rattle.ms_psbt_report.specs.Scaffolding.Tables.{IsTable}
use Rattle.ms_psbt_report.specs.Scaffolding.Words.{AreWords}
use Rattle.ms_psbt_report.proofs.inputs.push_checks.Given as goal

-- the lines so far and those of the signatures that are left
abbrev pub invariant-loop-number : goal.invariant-loop-number
invariant-loop-number l =
    (spend : Spend) → l.pairs ≡ signatures_in spend.fields → IsTable spend l.table → AreWords true spend l.words →
    l.report.items ++ flat_map (checked_line spend) (drop l.number l.pairs) ≡ l.initial.report.items ++ flat_map (checked_line spend) l.pairs
