use Rattle.std.proofs.Common.{Some, refl}
use Rattle.ms_io.specs.Sides.{Side, call}
use Rattle.ms_lines.proofs.MemoryLemmas.{answer_written}
use Rattle.ms_frame.proofs.answering.answer_in_memory.Goals as goal

pub returns : goal.returns
returns g c =
    let source : Side = record { old = Some c.new-source.result; new = Some c.call-status.new.source; before = 0; now = 0 } in
    let sink : Side = record { old = Some c.new-sink.result.bytes.items; new = Some c.call-status.new.sink.bytes.items; before = c.new-sink.result.failures; now = c.call-status.new.sink.failures } in
    answer_written g.P.OfWords.answers c.args.words.now c.new-source.result c.args.source.now c.new-sink.result.bytes.items c.call-status.new.sink.bytes.items
    c.call-status.result (Some c.call-status.new.source) 0 0 c.new-sink.result.failures c.call-status.new.sink.failures c.new-source.ensures
    c.new-sink.ensures.bytes (c.is_whole.ensures c.if-not-is_whole.false (call c.args.words.now source sink c.call-status.result) refl c.call-status.ensures.promises)
