use Rattle.std.proofs.Common.{◌≡◌, []}
use Rattle.ms_io.specs.Sides.{side}
use Rattle.ms_lines.specs.Scaffolding.Steps.{ReadsSoFar}
use Rattle.ms_lines.proofs.stream.answer_pieces.Given as goal

abbrev pub invariant-turns : goal.invariant-turns
invariant-turns g l = record {
  so : ReadsSoFar g.P.Program.answers l.counter l.start (side g.S.Source.left g.S.Source.faults l.initial.source l.source)
      (side g.K.Sink.written g.K.Sink.faults l.initial.sink l.sink);
  held : l.held.items ≡ [];
}
