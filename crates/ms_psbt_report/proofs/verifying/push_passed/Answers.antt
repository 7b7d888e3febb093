use Rattle.std.proofs.Common.{◌∙◌, ap}
use Rattle.std.proofs.lemmas.Result.{on_ok_weaker}
use Rattle.ms_input.specs.Checking.{judged_from}
use Rattle.ms_input.proofs.Checks.{judged_is}
use Rattle.ms_psbt_report.proofs.Validity.{passed_told}
use Rattle.ms_psbt_report.proofs.verifying.push_passed.Goals as goal

pub returns : goal.returns
returns c spend h =
    let check = c.args.check.now in
    let pair = c.args.pair.now in
    let word =
    c.judged-judgement.ensures ∙ ap (λ k. judged_from check k c.sig.result.now) c.key.ensures ∙ ap (judged_from check pair.0) c.sig.ensures
    ∙ judged_is spend check pair.0 pair.1 h
    in
    on_ok_weaker c.push_signature_line.result (λ e. e ∙ passed_told _ c.key-2.ensures c.sig-2.ensures word) c.push_signature_line.ensures
