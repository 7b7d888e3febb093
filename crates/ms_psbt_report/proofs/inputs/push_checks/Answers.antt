use Rattle.std.proofs.Common.{◌<◌, ◌≤◌, length, slice_get, refl, sym, ap, ◌∙◌, arith}
use Rattle.std.proofs.lemmas.Option.{slice_get_read}
use Rattle.def_machine.specs.Stacks.{Pairs}
use Rattle.def_psbt_answer.specs.Report.{checked_line}
use Rattle.ms_psbt_report.proofs.InputLines.{no_more}
use Rattle.ms_psbt_report.proofs.Validity.{one_passed}
use Rattle.ms_psbt_report.proofs.inputs.push_checks.Goals as goal

pub loop-number-preserved : goal.loop-number-preserved
loop-number-preserved c spend are table words =
    let pairs = c.args.pairs.now in
    let number = c.loop-number.number in
    let pair = c.index-pairs-number.result in
    let below : number < length pairs = omega arith in
    let there = ap (λ (ps : Pairs). slice_get ps number) (sym are) ∙ slice_get_read pairs (length pairs) number pair refl below c.index-pairs-number.is in
    one_passed (checked_line spend) _ _ _ pairs number pair below c.index-pairs-number.is (c.in_ok-push_check.ensures spend table words there)
    (c.loop-number.invariant spend are table words)

pub returns : goal.returns
returns c spend are table words =
    let past : length c.args.pairs.now ≤ c.loop-number.number = omega arith in
    no_more (checked_line spend) _ _ c.args.pairs.now c.loop-number.number past (c.loop-number.invariant spend are table words)
