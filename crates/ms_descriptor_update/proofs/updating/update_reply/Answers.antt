use Rattle.std.proofs.Common.{ap, sym, subst, ◌∙◌, Err}
use Rattle.std.proofs.lemmas.Result.{IfOk-weaker}
use Rattle.def_psbt.specs.Reading.{read_psbt}
use Rattle.def_psbt.specs.Source.{psbt_bytes}
use Rattle.def_psbt_answer.specs.Reply.{form_of}
use Rattle.def_descriptor_answer.specs.Update.{psbt_reply, updated_reply}
use Rattle.def_update.specs.Updated.{update_of}
use Rattle.ms_psbt.specs.declared.stop.ReadStop.{ReadStop}
use Rattle.ms_psbt.specs.Seen.{ReadsOr}
use Rattle.ms_psbt.specs.Sources.{bytes_of}
use Rattle.ms_descriptor_update.proofs.Replying.{not_bytes, not_psbt, is_psbt}
use Rattle.ms_descriptor_update.proofs.updating.update_reply.Goals as goal

pub returns-in-Err-Refused : goal.returns-in-Err-Refused
returns-in-Err-Refused c =
    let source = c.args.source.now in
    let why = c.in-Err-Refused.field-0-0 in
    let none = not_bytes source why (subst (λ (w : ReadStop). ReadsOr bytes_of (Err w) (psbt_bytes source)) c.in-Err-Refused.field-0-is c.in-Err-Refused.ensures.reading) in
    IfOk-weaker c.refused.result _ _ (λ made e. e ∙ ap (psbt_reply c.args.book.now.known.0 (form_of source)) (sym none)) (c.refused.ensures why none)

pub returns-in-Ok-read_psbt : goal.returns-in-Ok-read_psbt
returns-in-Ok-read_psbt c =
    let source = c.args.source.now in
    let psbt = c.in-Ok-read_psbt.psbt in
    let is = is_psbt source (bytes_of c.in-Ok.bytes) psbt c.in-Ok.ensures.reading (ap read_psbt (sym c.as_slice.ensures) ∙ c.in-Ok-read_psbt.ensures.reading) in
    IfOk-weaker c.psbt_reply.result _ _
    (λ made e. e ∙ (ap (λ f. updated_reply f (update_of c.args.book.now.known.0 psbt)) c.form_of.ensures ∙ ap (psbt_reply c.args.book.now.known.0 (form_of source)) (sym is)))
    c.psbt_reply.ensures

pub returns-in-Err-Refused-read_psbt : goal.returns-in-Err-Refused-read_psbt
returns-in-Err-Refused-read_psbt c =
    let source = c.args.source.now in
    let why = c.in-Err-Refused-read_psbt.field-0-0 in
    let none =
    not_psbt source (bytes_of c.in-Ok.bytes) why c.in-Ok.ensures.reading
    (ap read_psbt (sym c.as_slice.ensures)
    ∙ subst (λ (w : ReadStop). ReadsOr (λ psbt. psbt) (Err w) (read_psbt c.as_slice.result.now)) c.in-Err-Refused-read_psbt.field-0-is c.in-Err-Refused-read_psbt.ensures.reading) in
    IfOk-weaker c.refused-in-Err-Refused-read_psbt.result _ _ (λ made e. e ∙ ap (psbt_reply c.args.book.now.known.0 (form_of source)) (sym none))
    (c.refused-in-Err-Refused-read_psbt.ensures why none)
