use Rattle.std.proofs.Common.{refl}
use Rattle.std.proofs.lemmas.Result.{err_from_is_err_and}
use Rattle.ms_io.specs.Sides.{side}
use Rattle.ms_io.specs.declared.sink.SinkFailed.{SinkFailed}
use Rattle.ms_lines.proofs.TurnLemmas.{finishes_empty, finish_fails, finishes}
use Rattle.ms_lines.proofs.turns.finish.Goals as goal

pub returns-then-is_empty : goal.returns-then-is_empty
returns-then-is_empty g c =
    finishes_empty {E = SinkFailed} g.P.Program.answers c.args.start.now (g.K.Sink.written c.args.sink.now) (g.K.Sink.faults c.args.sink.now)
    (λ begun is. (c.is_empty.ensures begun is).0 c.if-is_empty.true)

pub returns-in_err-end_line : goal.returns-in_err-end_line
returns-in_err-end_line g c =
    let p = err_from_is_err_and c.from_residual.result c.from_residual.ensures.1 in
    rw p.1
    (finish_fails {E = SinkFailed} {F = SinkFailed} g.P.Program.answers c.args.start.now (side g.K.Sink.written g.K.Sink.faults c.args.sink.now c.end_line.new.sink)
    c.args.held.now.items c.end_line.new.held.items c.in_err-end_line.field-0.0 p.0 c.requires
    (λ begun is none. let yes = (c.is_empty.ensures begun is).1 none in let no = c.if-is_empty.false in cc)
    c.in_err-end_line.ensures.ends)

pub returns : goal.returns
returns g c =
    finishes {E = SinkFailed} {F = SinkFailed} g.P.Program.answers c.args.start.now (side g.K.Sink.written g.K.Sink.faults c.args.sink.now c.end_line.new.sink)
    (side g.K.Sink.written g.K.Sink.faults c.end_line.new.sink c.flush.new.sink) c.args.held.now.items c.end_line.new.held.items c.flush.new.held.items
    c.flush.result c.requires refl refl
    (λ begun is none. let yes = (c.is_empty.ensures begun is).1 none in let no = c.if-is_empty.false in cc)
    c.in_ok-end_line.ensures.ends c.flush.ensures.passes c.flush.ensures.all
