use Rattle.std.proofs.Common.{refl}
use Rattle.ms_io.specs.Sides.{side}
use Rattle.ms_io.specs.declared.sink.SinkFailed.{SinkFailed}
use Rattle.ms_lines.proofs.TurnLemmas.{turn_written}
use Rattle.ms_lines.proofs.turns.turn.Goals as goal

pub returns-clause-turns : goal.returns-clause-turns
returns-clause-turns g c =
    turn_written {E = SinkFailed} {F = SinkFailed} g.P.Program.answers c.args.start.now c.put_turn.new.start c.args.piece.now
    (side g.K.Sink.written g.K.Sink.faults c.args.sink.now c.put_turn.new.sink) (side g.K.Sink.written g.K.Sink.faults c.put_turn.new.sink c.flush.new.sink)
    c.args.held.now.items c.put_turn.new.held.items c.flush.new.held.items c.flush.result c.requires refl refl c.in_ok-put_turn.ensures
    c.flush.ensures.passes c.flush.ensures.all
