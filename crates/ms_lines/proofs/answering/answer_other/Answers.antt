use Rattle.std.proofs.Common.{None, List, ℕ, subst}
use Rattle.serde_json.specs.View.{view}
use Rattle.def_lines.specs.declared.LineFault.TheVariants as fault
use Rattle.def_lines.specs.Answer.{answer_line, fault_line, REFUSED}
use Rattle.ms_io.specs.Sides.{side}
use Rattle.ms_io.specs.declared.sink.SinkFailed.{SinkFailed}
use Rattle.ms_lines.specs.Through.{PassesOrFails}
use Rattle.ms_lines.proofs.AskedLemmas.{read_line, unread_line}
use Rattle.ms_lines.proofs.answering.answer_other.Goals as goal

pub returns-in-Ok : goal.returns-in-Ok
returns-in-Ok g c =
    let put = c.answer_value.ensures in (
      put.0,
      read_line g.P.Program.answers c.args.line.now put.0 (view c.in-Ok.value) c.in-Ok.ensures.ok.0 c.in-Ok.ensures.ok.1 put.1,
      put.2,
    )

pub returns-in-Err-2 : goal.returns-in-Err-2
returns-in-Err-2 g c = (
  answer_line None REFUSED (fault_line fault.NotJson),
  unread_line g.P.Program.answers c.args.line.now
      (c.in-Err.ensures.err (λ memory. let said = c.if-is_memory.false in let yes = c.is_memory.ensures.1 memory in cc)),
  subst (λ (report : List ℕ). PassesOrFails {E = SinkFailed} (side g.K.Sink.written g.K.Sink.faults c.args.sink.now c.put_answer.new.sink)
      c.args.held.now.items c.put_answer.new.held.items (answer_line None REFUSED report) c.put_answer.result) c.report_of.ensures c.put_answer.ensures,
)
