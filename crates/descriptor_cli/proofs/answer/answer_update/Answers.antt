use Rattle.std.proofs.Common.{refl, subst}
use Rattle.ms_descriptor_update.specs.Opening.{Opens}
use Rattle.descriptor_cli.proofs.Replying.{updated, not_opened}
use Rattle.descriptor_cli.proofs.answer.answer_update.Goals as goal

pub returns-in-Ok-Book-clause-answer : goal.returns-in-Ok-Book-clause-answer
returns-in-Ok-Book-clause-answer g c =
    let opened = subst (Opens c.args.text.now c.args.count) c.in-Ok-Book.field-0-is c.in-Ok-Book.ensures in
    updated c.args.text.now c.args.count c.in-Ok-Book.book opened _ c.answer_source.result c.answer_source.ensures.answer

pub returns-in-Ok-Refused-clause-answer : goal.returns-in-Ok-Refused-clause-answer
returns-in-Ok-Refused-clause-answer g c =
    let opened = subst (Opens c.args.text.now c.args.count) c.in-Ok-Refused.field-0-is c.in-Ok-Refused.ensures in
    not_opened c.args.text.now c.args.count _ c.in-Ok-Refused.reply (record { left = refl; faults = refl }) opened.0 opened.1
