use Rattle.std.proofs.Common.{refl, sym, ap, ◌∙◌}
use Rattle.def_psbt.specs.declared.PsbtVersion.TheVariants as version
use Rattle.def_psbt.specs.Fields.{transaction_of_fields}
use Rattle.def_psbt.specs.Reading.{unjoined}
use Rattle.def_psbt.specs.Transaction.{transaction_text}
use Rattle.def_psbt.specs.TransactionReading.{transaction_of}
use Rattle.ms_psbt.proofs.Making.{wrong_stops, right_goes}
use Rattle.ms_psbt.proofs.psbt.joined_transaction.Goals as goal

pub returns-in-Some : goal.returns-in-Some
returns-in-Some c = λ global at middle ins outs e needed placed others back.
    let made = transaction_of_fields global.0 ins outs in
    let text = c.as_slice.ensures.value ∙ c.in_ok-written.ensures.text global at middle ins outs e needed placed others in
    wrong_stops (unjoined version.Two at ins) (transaction_text made) c.in-Some.refusal
    (sym c.in-Some.is ∙ c.in_ok-wrong.ensures at ins made placed (ap transaction_of text ∙ back) refl)

pub returns-in-None : goal.returns-in-None
returns-in-None c = λ global at middle ins outs e needed placed others back.
    let made = transaction_of_fields global.0 ins outs in
    let items = c.in_ok-written.ensures.text global at middle ins outs e needed placed others in
    let text = c.as_slice.ensures.value ∙ items in
    right_goes (unjoined version.Two at ins) (transaction_text made) c.in_ok-written.written.bytes.items
    (sym c.in-None.is ∙ c.in_ok-wrong.ensures at ins made placed (ap transaction_of text ∙ back) refl) items
