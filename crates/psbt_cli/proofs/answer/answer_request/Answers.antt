use Rattle.std.proofs.Common.{◌≡◌, Err, ap, subst}
use Rattle.def_script.specs.Bytes.{Bytes}
use Rattle.def_psbt.specs.Source.{MAX_SOURCE_SIZE}
use Rattle.def_psbt_answer.specs.Reply.{reply}
use Rattle.def_psbt_answer.specs.Answer.{RepliesToRequest}
use Rattle.ms_io.proofs.Holding.{all_held, over_held}
use Rattle.psbt_cli.proofs.Ending.{refused_too_long}
use Rattle.psbt_cli.proofs.answer.answer_request.Goals as goal

pub returns-in-Err-TooLong-clause-answer : goal.returns-in-Err-TooLong-clause-answer
returns-in-Err-TooLong-clause-answer g c =
    refused_too_long c.args.request _ (over_held MAX_SOURCE_SIZE _ (c.in-Err-TooLong.ensures.too_long (ap Err c.in-Err-TooLong.field-0-is)))

pub returns-in-Ok-request_reply-clause-answer : goal.returns-in-Ok-request_reply-clause-answer
returns-in-Ok-request_reply-clause-answer g c =
    let made = c.in-Ok-request_reply.reply in
    let replies = λ (b : Bytes). RepliesToRequest c.args.request b (reply made.status (made.report.items)) in
    let same : c.deref.result.now ≡ c.in-Ok.bytes.items = c.deref.ensures.value in
    record {
      bytes = c.in-Ok.bytes.items;
      held = all_held MAX_SOURCE_SIZE _ _ c.in-Ok.ensures.all;
      replies = subst replies same c.in-Ok-request_reply.ensures;
    }
