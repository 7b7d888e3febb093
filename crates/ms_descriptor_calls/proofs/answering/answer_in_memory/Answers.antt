use Rattle.std.proofs.Common.{Some}
use Rattle.ms_io.specs.Sides.{Side, call}
use Rattle.ms_lines.proofs.MemoryLemmas.{answer_written}
use Rattle.ms_frame.proofs.FrameLemmas.{whole_report}
use Rattle.def_descriptor_answer.specs.declared.status.Status.TheVariants as status
use Rattle.def_descriptor_answer.specs.Answer.{Answer}
use Rattle.descriptor_cli.specs.Ends.{AsksUpdate, AsksSomething}
use Rattle.ms_descriptor_calls.proofs.answering.answer_in_memory.Goals as goal

pub returns-in_default : goal.returns-in_default
returns-in_default c =
    let source : Side = record { old = Some c.new-source.result; new = Some c.msat_descriptor-status.new.source; before = 0; now = 0 } in
    let after = c.msat_descriptor-status.new.sink in
    let sink : Side = record { old = Some c.new-sink.result.bytes.items; new = Some after.bytes.items; before = c.new-sink.result.failures; now = after.failures } in
    answer_written Answer c.args.words.now c.new-source.result c.args.source.now c.new-sink.result.bytes.items c.msat_descriptor-status.new.sink.bytes.items
    c.msat_descriptor-status.result (Some c.msat_descriptor-status.new.source) 0 0 c.new-sink.result.failures c.msat_descriptor-status.new.sink.failures c.new-source.ensures
    c.new-sink.ensures.bytes
    (whole_report Answer status.ReadFault status.WriteFault status.Memory AsksUpdate AsksSomething (call c.args.words.now source sink c.msat_descriptor-status.result)
    c.in_default.not-ReadFault c.in_default.not-WriteFault c.in_default.not-Memory c.msat_descriptor-status.ensures.end)
