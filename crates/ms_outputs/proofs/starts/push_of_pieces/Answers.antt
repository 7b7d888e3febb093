-- The starts of all pieces.
use Rattle.std.proofs.Common.{arith}
use Rattle.std.proofs.lemmas.List.{drop_all}
use Rattle.ms_outputs.proofs.Starting.{begun_end}
use Rattle.ms_outputs.proofs.starts.push_of_pieces.Goals as goal

pub returns : goal.returns
returns c = begun_end c.loop-piece.invariant (drop_all c.loop-piece.piece-index c.args.pieces.now (omega arith))
