use Rattle.std.proofs.Common.{◌++◌, refl}
use Rattle.ms_io.specs.Sides.{side}
use Rattle.ms_io.specs.declared.sink.SinkFailed.{SinkFailed}
use Rattle.ms_lines.proofs.ThroughLemmas.{through_then}
use Rattle.ms_lines.proofs.through.put_two.Goals as goal

pub returns : goal.returns
returns g c =
    let one = side g.K.Sink.written g.K.Sink.faults c.args.sink.now c.put.new.sink in
    let two = side g.K.Sink.written g.K.Sink.faults c.put.new.sink c.put-2.new.sink in
    through_then {E = SinkFailed} {F = SinkFailed} one two c.args.held.now.items c.put.new.held.items c.put-2.new.held.items
    c.args.first.now c.args.second.now (c.args.first.now ++ c.args.second.now) c.put-2.result refl refl refl c.in_ok-put.ensures c.put-2.ensures
