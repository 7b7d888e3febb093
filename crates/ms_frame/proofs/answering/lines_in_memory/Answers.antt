use Rattle.std.proofs.Common.{Some}
use Rattle.ms_frame.proofs.FrameLemmas.{lines_written}
use Rattle.ms_frame.proofs.answering.lines_in_memory.Goals as goal

pub returns-in-Done : goal.returns-in-Done
returns-in-Done g c =
    lines_written g.P.Program.answers c.new-source.result c.args.source.now c.new-sink.result.bytes.items c.answer_lines.new.sink.bytes.items
    (Some c.answer_lines.new.source) 0 0 c.new-sink.result.failures c.answer_lines.new.sink.failures c.new-source.ensures c.new-sink.ensures.bytes
    c.in-Done.ensures.ends
