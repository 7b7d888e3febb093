use Rattle.std.proofs.Common.{length, sym, ap, ◌∙◌}
use Rattle.ms_calls.specs.Buffers.{written_over}
use Rattle.ms_descriptor_calls.proofs.AnswerLemmas.{holds_of_descriptors, answer_is_no_stop}
use Rattle.ms_descriptor_calls.proofs.answering.descriptor_answer.Goals as goal

pub returns-in-Ok-answer_in_memory-clause-status : goal.returns-in-Ok-answer_in_memory-clause-status
returns-in-Ok-answer_in_memory-clause-status c =
    holds_of_descriptors c.one_answer.ensures.one c.args.count c.args.words.now c.args.source.now c.in-Ok.words.items c.in-Ok-answer_in_memory.replied.status
    c.in-Ok-answer_in_memory.replied.report.items _ _ c.in-Ok.ensures.words (rw c.deref.ensures.value at c.in-Ok-answer_in_memory.ensures)
    c.code.ensures

pub returns-in-Ok-answer_in_memory-clause-written : goal.returns-in-Ok-answer_in_memory-clause-written
returns-in-Ok-answer_in_memory-clause-written c =
    holds_of_descriptors c.one_answer.ensures.one c.args.count c.args.words.now c.args.source.now c.in-Ok.words.items c.in-Ok-answer_in_memory.replied.status
    c.in-Ok-answer_in_memory.replied.report.items _ _ c.in-Ok.ensures.words (rw c.deref.ensures.value at c.in-Ok-answer_in_memory.ensures)
    (c.write_over-count.ensures.written ∙ ap (written_over c.args.report.now) c.deref-in-Ok-answer_in_memory.ensures.value)

pub returns-in-Ok-answer_in_memory-clause-needed : goal.returns-in-Ok-answer_in_memory-clause-needed
returns-in-Ok-answer_in_memory-clause-needed c =
    holds_of_descriptors c.one_answer.ensures.one c.args.count c.args.words.now c.args.source.now c.in-Ok.words.items c.in-Ok-answer_in_memory.replied.status
    c.in-Ok-answer_in_memory.replied.report.items _ _ c.in-Ok.ensures.words (rw c.deref.ensures.value at c.in-Ok-answer_in_memory.ensures)
    (c.len.ensures ∙ sym c.deref-in-Ok-answer_in_memory.ensures.len ∙ ap length c.deref-in-Ok-answer_in_memory.ensures.value)

pub returns-in-Ok-answer_in_memory-clause-kept : goal.returns-in-Ok-answer_in_memory-clause-kept
returns-in-Ok-answer_in_memory-clause-kept c stop =
    let outcome = c.in-Ok-answer_in_memory.replied in
    let answer = rw c.deref.ensures.value at c.in-Ok-answer_in_memory.ensures in
    absurd (answer_is_no_stop c.one_answer.ensures.status c.in-Ok.words.items c.args.source.now outcome.status outcome.report.items c.code.result answer c.code.ensures stop)

pub returns-in-Ok-answer_in_memory-clause-kept_needed : goal.returns-in-Ok-answer_in_memory-clause-kept_needed
returns-in-Ok-answer_in_memory-clause-kept_needed c stop =
    let outcome = c.in-Ok-answer_in_memory.replied in
    let answer = rw c.deref.ensures.value at c.in-Ok-answer_in_memory.ensures in
    absurd (answer_is_no_stop c.one_answer.ensures.status c.in-Ok.words.items c.args.source.now outcome.status outcome.report.items c.code.result answer c.code.ensures stop)
