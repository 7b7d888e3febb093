use Rattle.std.proofs.Common.{◌≡◌, ◌++◌, Bool, drop}
use Rattle.std.specs.List.{flat_map}
use Rattle.def_spend.specs.Fields.{signatures_in}
use Rattle.def_spend.specs.Input.{Spend}
use Rattle.def_psbt_answer.specs.Lines.{signature_line}
use Rattle.def_psbt_answer.specs.Report.{told_word}
use Rattle.ms_psbt_report.specs.Scaffolding.Words.{AreWords}
use Rattle.ms_psbt_report.proofs.inputs.push_signature_lines.Given as goal

-- the lines so far and those of the signatures that are left
abbrev pub invariant-loop-number : goal.invariant-loop-number
invariant-loop-number l =
    (is_known : Bool) (spend : Spend) → l.pairs ≡ signatures_in spend.fields → AreWords is_known spend l.words →
    l.report.items ++ flat_map (λ pair. signature_line pair (told_word is_known spend pair)) (drop l.number l.pairs)
    ≡ l.initial.report.items ++ flat_map (λ pair. signature_line pair (told_word is_known spend pair)) l.pairs
