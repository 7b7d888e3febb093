use Rattle.std.proofs.Common.{◌≡◌, ◌<◌, [], List, ℕ, length, take, length-take, sym, ap, subst, refl, arith}
use Rattle.ms_io.specs.Sides.{side}
use Rattle.ms_io.specs.declared.sink.SinkFailed.{SinkFailed}
use Rattle.ms_lines.specs.Turns.{Beginning}
use Rattle.ms_lines.specs.Scaffolding.Steps.{ReadsSoFar}
use Rattle.ms_lines.proofs.StreamLemmas.{reads_nothing, reads_on, turn_stops, lines_done, finish_stops}
use Rattle.ms_lines.proofs.stream.answer_pieces.Goals as goal
use Rattle.ms_lines.proofs.stream.answer_pieces.Goals.{in-Ok-finish, in-Err}

pub turns-init : goal.turns-init
turns-init g c = record {
  so =
      subst (λ (start : Beginning). ReadsSoFar g.P.Program.answers 0 start (side g.S.Source.left g.S.Source.faults c.args.source.now c.args.source.now)
      (side g.K.Sink.written g.K.Sink.faults c.args.sink.now c.args.sink.now)) (sym c.new-start.ensures)
      (reads_nothing g.P.Program.answers (g.S.Source.left c.args.source.now) (g.K.Sink.written c.args.sink.now) (g.S.Source.faults c.args.source.now)
      (g.K.Sink.faults c.args.sink.now));
  held = c.new-held.ensures.items;
}

pub turns-preserved : goal.turns-preserved
turns-preserved g c =
    let piece : List ℕ = take c.in-Ok.count c.read.new.buf in
    let some : 0 < length piece = omega (arith, length-take c.in-Ok.count c.read.new.buf, c.in-Ok.ensures.bound) in
    record {
      so =
          reads_on {E = SinkFailed} g.P.Program.answers c.turns.counter _ c.turns.start c.turn.new.start
          (side g.S.Source.left g.S.Source.faults c.args.source.now c.turns.source) (side g.K.Sink.written g.K.Sink.faults c.args.sink.now c.turns.sink)
          (side g.S.Source.left g.S.Source.faults c.turns.source c.read.new.self) (side g.K.Sink.written g.K.Sink.faults c.turns.sink c.turn.new.sink)
          piece refl refl refl refl refl c.turns.invariant.so c.in-Ok.ensures.bytes.0 c.in-Ok.ensures.cause.later some c.in-Ok-turn.ensures.turns;
      held = c.in-Ok-turn.ensures.held;
    }

pub returns-in_default-turn-clause-ends : goal.returns-in_default-turn-clause-ends
returns-in_default-turn-clause-ends g c =
    turn_stops {E = SinkFailed} g.P.Program.answers c.turns.counter c.turns.start c.turn.new.start
    (side g.S.Source.left g.S.Source.faults c.args.source.now c.turns.source) (side g.K.Sink.written g.K.Sink.faults c.args.sink.now c.turns.sink)
    (side g.S.Source.left g.S.Source.faults c.turns.source c.read.new.self) (side g.K.Sink.written g.K.Sink.faults c.turns.sink c.turn.new.sink)
    (take c.in-Ok.count c.read.new.buf) c.turn.result _ c.in_default-turn.is refl refl refl refl c.turns.invariant.so c.in-Ok.ensures.bytes.0 c.turn.ensures.turns

pub returns-then-count-eq0-clause-ends : goal.returns-then-count-eq0-clause-ends
returns-then-count-eq0-clause-ends g c =
    let none : take c.in-Ok.count c.read.new.buf ≡ [] = ap (λ n. take n c.read.new.buf) c.if-count-eq0.true in
    let room : 0 < length c.read.new.buf = omega arith in
    elim c.match-finish.branch [
      | in-Ok-finish w ↦
          rw w.result-is
          (lines_done {E = SinkFailed} g.P.Program.answers c.turns.counter c.turns.start
          (side g.S.Source.left g.S.Source.faults c.args.source.now c.turns.source) (side g.K.Sink.written g.K.Sink.faults c.args.sink.now c.turns.sink)
          (side g.S.Source.left g.S.Source.faults c.turns.source c.read.new.self) (side g.K.Sink.written g.K.Sink.faults c.turns.sink c.finish.new.sink)
          (take c.in-Ok.count c.read.new.buf) c.finish.result w.in-Ok-finish.is refl refl c.turns.invariant.so none c.in-Ok.ensures.bytes.0
          (c.in-Ok.ensures.bytes.1 c.if-count-eq0.true room) c.finish.ensures)
      | in-Err w ↦
          rw w.result-is
          (finish_stops {E = SinkFailed} g.P.Program.answers c.turns.counter c.turns.start
          (side g.S.Source.left g.S.Source.faults c.args.source.now c.turns.source) (side g.K.Sink.written g.K.Sink.faults c.args.sink.now c.turns.sink)
          (side g.S.Source.left g.S.Source.faults c.turns.source c.read.new.self) (side g.K.Sink.written g.K.Sink.faults c.turns.sink c.finish.new.sink)
          (take c.in-Ok.count c.read.new.buf) c.finish.result _ w.in-Err.is refl refl refl c.turns.invariant.so none c.in-Ok.ensures.bytes.0 c.finish.ensures)
    ]
