use Rattle.std.proofs.Common.{List, ℕ, length}
use Rattle.ms_io.specs.Sides.{side}
use Rattle.ms_lines.specs.Turns.{Begins}
use Rattle.ms_lines.specs.Scaffolding.Steps.{TurnsSoFar}
use Rattle.ms_lines.proofs.turns.put_turn.Given as goal

abbrev pub invariant-loop-line : goal.invariant-loop-line
invariant-loop-line g l =
    (begun : List ℕ) → Begins l.initial.start begun →
    TurnsSoFar g.P.Program.answers begun l.piece l.start l.rest (side g.K.Sink.written g.K.Sink.faults l.initial.sink l.sink) l.initial.held.items l.held.items

abbrev pub decreases-loop-line : goal.decreases-loop-line
decreases-loop-line g l = length l.rest
