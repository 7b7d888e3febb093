use Rattle.std.proofs.Common.{length, Err, sym, ap, ◌∙◌}
use Rattle.ms_calls.specs.Buffers.{written_over}
use Rattle.ms_calls.proofs.AnswerLemmas.{holds_of_others, holds_of_lines, answer_is_no_stop}
use Rattle.ms_calls.proofs.answering.answer.Goals as goal

pub returns-in-Err-Unreadable-clause-lines : goal.returns-in-Err-Unreadable-clause-lines
returns-in-Err-Unreadable-clause-lines c are given = absurd (c.in-Err-Unreadable.ensures.none (ap Err c.in-Err-Unreadable.field-0-is) _ are)

pub returns-in-Ok-answer_whole-clause-status : goal.returns-in-Ok-answer_whole-clause-status
returns-in-Ok-answer_whole-clause-status c =
    holds_of_others c.args.count c.args.words.now c.args.source.now c.in-Ok.words.items c.in-Ok-answer_whole.replied.status
    c.in-Ok-answer_whole.replied.report.items _ _ c.in-Ok.ensures.words (rw c.deref.ensures.value at c.in-Ok-answer_whole.ensures)
    c.code.ensures

pub returns-in-Ok-answer_whole-clause-written : goal.returns-in-Ok-answer_whole-clause-written
returns-in-Ok-answer_whole-clause-written c =
    holds_of_others c.args.count c.args.words.now c.args.source.now c.in-Ok.words.items c.in-Ok-answer_whole.replied.status
    c.in-Ok-answer_whole.replied.report.items _ _ c.in-Ok.ensures.words (rw c.deref.ensures.value at c.in-Ok-answer_whole.ensures)
    (c.write_over-count.ensures.written ∙ ap (written_over c.args.report.now) c.deref-in-Ok-answer_whole.ensures.value)

pub returns-in-Ok-answer_whole-clause-needed : goal.returns-in-Ok-answer_whole-clause-needed
returns-in-Ok-answer_whole-clause-needed c =
    holds_of_others c.args.count c.args.words.now c.args.source.now c.in-Ok.words.items c.in-Ok-answer_whole.replied.status
    c.in-Ok-answer_whole.replied.report.items _ _ c.in-Ok.ensures.words (rw c.deref.ensures.value at c.in-Ok-answer_whole.ensures)
    (c.len.ensures ∙ sym c.deref-in-Ok-answer_whole.ensures.len ∙ ap length c.deref-in-Ok-answer_whole.ensures.value)

pub returns-in-Ok-answer_whole-clause-lines : goal.returns-in-Ok-answer_whole-clause-lines
returns-in-Ok-answer_whole-clause-lines c =
    holds_of_lines c.args.count c.args.words.now c.args.source.now c.in-Ok.words.items c.in-Ok-answer_whole.replied.status
    c.in-Ok-answer_whole.replied.report.items _ _ _ _ c.in-Ok.ensures.words (rw c.deref.ensures.value at c.in-Ok-answer_whole.ensures)
    c.code.ensures (c.write_over-count.ensures.written ∙ ap (written_over c.args.report.now) c.deref-in-Ok-answer_whole.ensures.value)
    (c.len.ensures ∙ sym c.deref-in-Ok-answer_whole.ensures.len ∙ ap length c.deref-in-Ok-answer_whole.ensures.value)

pub returns-in-Ok-answer_whole-clause-kept : goal.returns-in-Ok-answer_whole-clause-kept
returns-in-Ok-answer_whole-clause-kept c stop = absurd (answer_is_no_stop c.in-Ok.words.items c.args.source.now c.in-Ok-answer_whole.replied.status c.in-Ok-answer_whole.replied.report.items
    c.code.result (rw c.deref.ensures.value at c.in-Ok-answer_whole.ensures) c.code.ensures stop)

pub returns-in-Ok-answer_whole-clause-kept_needed : goal.returns-in-Ok-answer_whole-clause-kept_needed
returns-in-Ok-answer_whole-clause-kept_needed c stop = absurd (answer_is_no_stop c.in-Ok.words.items c.args.source.now c.in-Ok-answer_whole.replied.status c.in-Ok-answer_whole.replied.report.items
    c.code.result (rw c.deref.ensures.value at c.in-Ok-answer_whole.ensures) c.code.ensures stop)
