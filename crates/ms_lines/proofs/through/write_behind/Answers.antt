use Rattle.std.proofs.Common.{refl}
use Rattle.std.specs.Io.KnownBytes.{Appends}
use Rattle.std.proofs.lemmas.Result.{MatchResult-from_both}
use Rattle.ms_io.specs.Moves.{AppendsPrefix}
use Rattle.ms_io.specs.Sides.{side}
use Rattle.ms_io.specs.declared.sink.SinkFailed.{SinkFailed}
use Rattle.ms_lines.proofs.ThroughLemmas.{written_behind}
use Rattle.ms_lines.proofs.through.write_behind.Goals as goal

pub returns : goal.returns
returns g c =
    let one = side g.K.Sink.written g.K.Sink.faults c.args.sink.now c.flush.new.sink in
    let two = side g.K.Sink.written g.K.Sink.faults c.flush.new.sink c.put_all.new.sink in
    written_behind {E = SinkFailed} {F = SinkFailed} one two c.args.held.now.items c.args.bytes.now c.put_all.result c.flush.new.held.items refl refl
    c.in_ok-flush.ensures.all c.in_ok-flush.ensures.passes
    (MatchResult-from_both c.put_all.result (λ _. Appends two.old two.new c.args.bytes.now) (λ _. AppendsPrefix two.old two.new c.args.bytes.now)
    c.put_all.ensures.all c.put_all.ensures.part)
    c.put_all.ensures.cause
