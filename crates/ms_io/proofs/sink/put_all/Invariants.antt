use Rattle.std.proofs.Common.{◌≤◌, length}
use Rattle.ms_io.specs.Calls.{Offers}
use Rattle.ms_io.specs.Scaffolding.Writing.{WritesSoFar}
use Rattle.ms_io.proofs.sink.put_all.Given as goal

abbrev pub invariant-loop-rest : goal.invariant-loop-rest
invariant-loop-rest g l = record {
  so_far : WritesSoFar (g.K.Sink.written l.initial.sink) (g.K.Sink.written l.sink) l.bytes l.rest;
  offered : Offers g.K.Sink.takes l.initial.sink l.bytes l.sink l.rest;
  later : g.K.Sink.faults l.initial.sink ≤ g.K.Sink.faults l.sink;
}

abbrev pub decreases-loop-rest : goal.decreases-loop-rest
decreases-loop-rest g l = length l.rest
