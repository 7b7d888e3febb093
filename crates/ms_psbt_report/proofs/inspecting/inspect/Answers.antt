use Rattle.std.proofs.Common.{length, map, sym, ap, ◌∙◌}
use Rattle.std.proofs.lemmas.List.{length-map}
use Rattle.def_psbt.specs.Transaction.{Transaction}
use Rattle.def_spend.specs.Reading.{Input}
use Rattle.def_psbt_answer.specs.Report.{inspect_report}
use Rattle.ms_psbt_report.proofs.AllTold.{whole_report}
use Rattle.ms_psbt_report.proofs.Spends.{count_inputs}
use Rattle.ms_psbt_report.proofs.inspecting.inspect.Goals as goal

pub returns-clause-report : goal.returns-clause-report
returns-clause-report c inputs are =
    let told = c.in_ok-told.ensures inputs are in
    let own = c.unsigned_transaction-transaction.ensures.transaction in
    let count = c.input_count-count.ensures.inputs in
    let long = count_inputs c.args.verification c.args.psbt.now inputs c.input_count-count.result are c.input_count-count.ensures.maps count in
    let all = length-map inputs (λ (i : Input). i.spend) ∙ long ∙ count ∙ sym (ap (λ (t : Transaction). length t.inputs) own) in
    c.in_ok-with_money.ensures
    ∙ whole_report c.unsigned_transaction-transaction.result inputs c.in_ok-told.told c.finish.result told
    (c.finish.ensures (map (λ (i : Input). i.spend) inputs) told.id all)
    ∙ ap (λ (t : Transaction). inspect_report t inputs) own
