use Rattle.std.proofs.Common.{◌<◌, ◌≤◌, length, slice_get, refl, sym, ap, ◌∙◌, arith}
use Rattle.std.proofs.lemmas.Option.{slice_get_read}
use Rattle.def_machine.specs.Stacks.{Pairs}
use Rattle.def_psbt_answer.specs.Lines.{signature_line}
use Rattle.def_psbt_answer.specs.Report.{told_word}
use Rattle.ms_psbt_report.proofs.InputLines.{no_more}
use Rattle.ms_psbt_report.proofs.Validity.{one_passed}
use Rattle.ms_psbt_report.proofs.inputs.push_signature_lines.Goals as goal

pub loop-number-preserved : goal.loop-number-preserved
loop-number-preserved c is_known spend are words =
    let pairs = c.args.pairs.now in
    let number = c.loop-number.number in
    let pair = c.index-pairs-number.result in
    let below : number < length pairs = omega arith in
    let there = ap (λ (ps : Pairs). slice_get ps number) (sym are) ∙ slice_get_read pairs (length pairs) number pair refl below c.index-pairs-number.is in
    one_passed (λ pair. signature_line pair (told_word is_known spend pair)) _ _ _ pairs number pair below c.index-pairs-number.is (c.in_ok-push_told.ensures is_known spend words there)
    (c.loop-number.invariant is_known spend are words)

pub returns : goal.returns
returns c is_known spend are words =
    let past : length c.args.pairs.now ≤ c.loop-number.number = omega arith in
    no_more (λ pair. signature_line pair (told_word is_known spend pair)) _ _ c.args.pairs.now c.loop-number.number past (c.loop-number.invariant is_known spend are words)
