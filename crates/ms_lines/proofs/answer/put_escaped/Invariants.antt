use Rattle.std.proofs.Common.{◌≡◌, ◌++◌, ◌≤◌, List, ℕ, length}
use Rattle.def_lines.specs.Answer.{escaped}
use Rattle.ms_lines.specs.Through.{Passes}
use Rattle.ms_lines.proofs.answer.put_escaped.Given as goal

abbrev pub invariant-loop-line : goal.invariant-loop-line
invariant-loop-line g l = record {
  front : List ℕ;
  whole : escaped l.initial.report ≡ front ++ escaped l.rest;
  passed : Passes (g.K.Sink.written l.initial.sink) (g.K.Sink.written l.sink) l.initial.held.items l.held.items front;
  later : g.K.Sink.faults l.initial.sink ≤ g.K.Sink.faults l.sink;
}

abbrev pub decreases-loop-line : goal.decreases-loop-line
decreases-loop-line g l = length l.rest
