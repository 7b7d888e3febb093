use Rattle.std.proofs.Common.{◌≡◌, Err, ap, subst, Ok}
use Rattle.def_script.specs.Bytes.{Bytes}
use Rattle.def_psbt.specs.Source.{MAX_SOURCE_SIZE}
use Rattle.def_descriptor_answer.specs.Reply.{reply}
use Rattle.def_descriptor_answer.specs.Update.{known_reply}
use Rattle.ms_io.proofs.Holding.{all_held, over_held}
use Rattle.descriptor_cli.proofs.Replying.{refused_too_long, replied}
use Rattle.descriptor_cli.proofs.answer.answer_source.Goals as goal

pub returns-in-Err-TooLong-clause-answer : goal.returns-in-Err-TooLong-clause-answer
returns-in-Err-TooLong-clause-answer g c =
    refused_too_long c.args.book.now.known.0 _ (over_held MAX_SOURCE_SIZE _ (c.in-Err-TooLong.ensures.too_long (ap Err c.in-Err-TooLong.field-0-is)))

pub returns-in-Ok-update_reply-clause-answer : goal.returns-in-Ok-update_reply-clause-answer
returns-in-Ok-update_reply-clause-answer g c =
    let made = c.in-Ok-update_reply.reply in
    let bytes = c.in-Ok.bytes.items in
    replied c.args.book.now.known.0 _ bytes made (all_held MAX_SOURCE_SIZE _ _ c.in-Ok.ensures.all) c.in-Ok.ensures.short
    (subst (λ (b : Bytes). reply made.status made.report.items ≡ known_reply b (Ok c.args.book.now.known.0)) c.deref.ensures.value c.in-Ok-update_reply.ensures)
