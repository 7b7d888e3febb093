use Rattle.std.proofs.Common.{refl}
use Rattle.std.proofs.lemmas.Result.{err_from_is_err_and}
use Rattle.ms_io.specs.Sides.{side}
use Rattle.ms_io.specs.declared.sink.SinkFailed.{SinkFailed}
use Rattle.ms_lines.proofs.FeedLemmas.{behind_shorter}
use Rattle.ms_lines.proofs.TurnLemmas.{starts_so_far, line_so_far, line_fails, turn_done}
use Rattle.ms_lines.proofs.turns.put_turn.Goals as goal

pub loop-line-init : goal.loop-line-init
loop-line-init g c =
    λ begun begins. starts_so_far g.P.Program.answers begun c.args.piece.now c.args.start.now (g.K.Sink.written c.args.sink.now) (g.K.Sink.faults c.args.sink.now)
    c.args.held.now.items begins

pub loop-line-smaller : goal.loop-line-smaller
loop-line-smaller g c = behind_shorter c.loop-line.rest.now c.in-Some.line.now c.in-Some.after.now c.in-Some.ensures

pub loop-line-preserved : goal.loop-line-preserved
loop-line-preserved g c =
    λ begun begins. line_so_far {E = SinkFailed} g.P.Program.answers begun c.args.piece.now c.loop-line.rest.now c.in-Some.line.now c.in-Some.after.now
    c.loop-line.start c.end_line.new.start
    (side g.K.Sink.written g.K.Sink.faults c.args.sink.now c.loop-line.sink) (side g.K.Sink.written g.K.Sink.faults c.loop-line.sink c.end_line.new.sink)
    c.args.held.now.items c.loop-line.held.items c.end_line.new.held.items refl refl
    (c.loop-line.invariant begun begins) c.in-Some.ensures c.in_ok-end_line.ensures.begins c.in_ok-end_line.ensures.ends

pub returns-in_err-end_line : goal.returns-in_err-end_line
returns-in_err-end_line g c =
    let p = err_from_is_err_and c.from_residual.result c.from_residual.ensures.1 in
    rw p.1
    (λ begun begins. (
      line_fails {E = SinkFailed} {F = SinkFailed} g.P.Program.answers begun c.args.piece.now c.loop-line.rest.now c.in-Some.line.now c.in-Some.after.now
          c.loop-line.start
          (side g.K.Sink.written g.K.Sink.faults c.args.sink.now c.loop-line.sink) (side g.K.Sink.written g.K.Sink.faults c.loop-line.sink c.end_line.new.sink)
          c.args.held.now.items c.loop-line.held.items c.end_line.new.held.items c.end_line.new.held.items c.in_err-end_line.field-0.0 p.0 refl refl
          (c.loop-line.invariant begun begins) c.in-Some.ensures c.in_err-end_line.ensures.ends,
      tt,
    ))

pub returns : goal.returns
returns g c =
    λ begun begins. turn_done {E = SinkFailed} g.P.Program.answers begun c.args.piece.now c.loop-line.rest.now c.loop-line.start c.push.new.self
    (side g.K.Sink.written g.K.Sink.faults c.args.sink.now c.loop-line.sink) c.args.held.now.items c.loop-line.held.items
    (c.loop-line.invariant begun begins) c.in_default.ensures c.push.ensures
