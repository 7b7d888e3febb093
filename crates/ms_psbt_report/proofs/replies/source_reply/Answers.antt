use Rattle.std.proofs.Common.{◌≡◌, Ok, sym, ◌∙◌, ap, arith}
use Rattle.std.proofs.lemmas.Result.{IfOk-weaker}
use Rattle.def_script.specs.Bytes.{IsBytes}
use Rattle.def_psbt.specs.Reading.{read_psbt}
use Rattle.def_psbt.specs.Source.{psbt_of}
use Rattle.def_spend.specs.declared.Verification.TheVariants.{Unverified}
use Rattle.def_psbt_answer.specs.Answer.{RepliesToSource}
use Rattle.def_psbt_answer.specs.Reply.{reply, form_of, command_reply}
use Rattle.ms_psbt.specs.Sources.{bytes_of}
use Rattle.ms_psbt_report.proofs.Answering.{given_psbt, replied_to}
use Rattle.ms_psbt_report.proofs.replies.source_reply.Goals as goal

pub command_reply-requires : goal.command_reply-requires
command_reply-requires c =
    let source = c.args.source.now in
    let bytes : IsBytes source = λ i. omega (arith, c.type_inv.source i) in
    c.given.ensures.assets source c.in-Ok-read_psbt.psbt bytes
    (given_psbt source (bytes_of c.in-Ok.bytes) c.in-Ok-read_psbt.psbt c.in-Ok.ensures.reading (ap read_psbt (sym c.as_slice.ensures) ∙ c.in-Ok-read_psbt.ensures.reading))
    Unverified

pub returns-in-Ok-read_psbt : goal.returns-in-Ok-read_psbt
returns-in-Ok-read_psbt c =
    let source = c.args.source.now in
    let psbt = c.in-Ok-read_psbt.psbt in
    let bytes : IsBytes source = λ i. omega (arith, c.type_inv.source i) in
    let given : psbt_of source ≡ Ok psbt =
    given_psbt source (bytes_of c.in-Ok.bytes) psbt c.in-Ok.ensures.reading (ap read_psbt (sym c.as_slice.ensures) ∙ c.in-Ok-read_psbt.ensures.reading) in
    IfOk-weaker c.command_reply.result _ (λ made. RepliesToSource c.args.command (form_of source) (psbt_of source) (reply made.status made.report.items))
    (λ made h. replied_to c.given.ensures.keys c.args.command (form_of source) source psbt (reply made.status made.report.items) bytes given
    (λ inputs are. h inputs are ∙ ap (λ f. command_reply c.args.command f psbt inputs) c.form_of.ensures))
    c.command_reply.ensures
