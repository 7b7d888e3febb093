use Rattle.std.proofs.Common.{◌++◌, Ok, refl, List, ℕ}
use Rattle.std.proofs.lemmas.Result.{err_from_is_err_and}
use Rattle.ms_io.specs.Sides.{side}
use Rattle.ms_io.specs.declared.sink.SinkFailed.{SinkFailed}
use Rattle.ms_lines.proofs.ThroughLemmas.{joined, through_then, through_stop}
use Rattle.ms_lines.proofs.through.put_three.Goals as goal

pub returns-in_err-put-2 : goal.returns-in_err-put-2
returns-in_err-put-2 g c =
    let one = side g.K.Sink.written g.K.Sink.faults c.args.sink.now c.put.new.sink in
    let two = side g.K.Sink.written g.K.Sink.faults c.put.new.sink c.put-2.new.sink in
    let p = err_from_is_err_and c.from_residual-in_err-put-2.result c.from_residual-in_err-put-2.ensures.1 in
    rw p.1
    (through_stop {E = SinkFailed} {F = SinkFailed} one two c.args.held.now.items c.put.new.held.items c.put-2.new.held.items c.put-2.new.held.items
    c.args.first.now c.args.second.now c.args.third.now _ c.in_err-put-2.field-0.0 p.0 refl refl refl c.in_ok-put.ensures c.in_err-put-2.ensures)

pub returns : goal.returns
returns g c =
    let one = side g.K.Sink.written g.K.Sink.faults c.args.sink.now c.put.new.sink in
    let two = side g.K.Sink.written g.K.Sink.faults c.put.new.sink c.put-2.new.sink in
    let three = side g.K.Sink.written g.K.Sink.faults c.put-2.new.sink c.put-3.new.sink in
    let front : List ℕ = c.args.first.now ++ c.args.second.now in
    through_then {E = SinkFailed} {F = SinkFailed} (joined one two) three c.args.held.now.items c.put-2.new.held.items c.put-3.new.held.items
    front c.args.third.now (front ++ c.args.third.now) c.put-3.result refl refl refl
    (through_then {E = SinkFailed} {F = SinkFailed} one two c.args.held.now.items c.put.new.held.items c.put-2.new.held.items
    c.args.first.now c.args.second.now front (Ok tt) refl refl refl c.in_ok-put.ensures c.in_ok-put-2.ensures)
    c.put-3.ensures
