use Rattle.std.proofs.Common.{ℕ, ap, sym, subst, ◌∙◌, Err}
use Rattle.std.proofs.lemmas.Result.{IfOk-weaker}
use Rattle.def_descriptor_answer.specs.declared.status.Status.TheVariants as status
use Rattle.def_descriptor_answer.specs.Reply.{reply}
use Rattle.def_descriptor_answer.specs.Update.{conflict_line, updated_reply}
use Rattle.def_update.specs.Updated.{update_of}
use Rattle.ms_update.specs.declared.updating.UpdateStop.{UpdateStop}
use Rattle.ms_update.specs.Outcome.{Updates}
use Rattle.ms_descriptor_update.proofs.Replying.{is_made}
use Rattle.ms_descriptor_update.proofs.updating.psbt_reply.Goals as goal

pub returns-in-Ok : goal.returns-in-Ok
returns-in-Ok c =
    let found = is_made c.in-Ok.made (update_of c.args.book.now.known.0 c.args.psbt.now) c.in-Ok.ensures in
    IfOk-weaker c.updated.result _ _ (λ made e. e ∙ ap (updated_reply c.args.form) (sym found.is)) (c.updated.ensures found.whole found.updated)

pub returns-in-Err-Conflict : goal.returns-in-Err-Conflict
returns-in-Err-Conflict c =
    let known = c.args.book.now.known.0 in
    let barred = subst (λ (w : UpdateStop). Updates known c.args.psbt.now (Err w)) c.in-Err-Conflict.field-0-is c.in-Err-Conflict.ensures in
    IfOk-weaker c.conflict.result _ _
    (λ made e. e ∙ (ap (λ (n : ℕ). reply status.PsbtRefused (conflict_line n)) c.in-Err-Conflict.place-is ∙ ap (updated_reply c.args.form) (sym barred))) c.conflict.ensures
