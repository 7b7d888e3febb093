use Rattle.std.proofs.Common.{List, ℕ, subst}
use Rattle.ms_io.specs.Sides.{side}
use Rattle.ms_io.specs.declared.sink.SinkFailed.{SinkFailed}
use Rattle.ms_lines.specs.Through.{PassesOrFails}
use Rattle.ms_lines.proofs.ThroughLemmas.{not_held}
use Rattle.ms_lines.proofs.through.put.Goals as goal

pub returns : goal.returns
returns g c =
    let behind = side g.K.Sink.written g.K.Sink.faults c.args.sink.now c.write_behind.new.sink in
    subst (λ (held : List ℕ). PassesOrFails {E = SinkFailed} behind held c.write_behind.new.held.items c.args.bytes.now c.write_behind.result)
    (not_held c.hold.result c.args.held.now.items c.hold.new.held.items c.args.bytes.now c.hold.ensures c.if-hold.false) c.write_behind.ensures
