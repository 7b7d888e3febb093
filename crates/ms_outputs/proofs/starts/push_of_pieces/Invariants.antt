-- The starts so far, and the pieces that are left.
use Rattle.std.proofs.Common.{drop}
use Rattle.ms_outputs.proofs.Starting.{Begun}
use Rattle.ms_outputs.proofs.starts.push_of_pieces.Given as goal

abbrev pub invariant-loop-piece : goal.invariant-loop-piece
invariant-loop-piece l = Begun l.branch l.pieces (drop l.piece-index l.pieces) l.initial.starts.items l.starts.items
