-- What was added, before the text of the pieces that are left.
use Rattle.std.proofs.Common.{◌≡◌, ◌++◌, map, drop}
use Rattle.def_descriptor.specs.Answer.{sample}
use Rattle.ms_descriptor.specs.Miniscripts.{piece_at}
use Rattle.ms_descriptor.proofs.sample.push_pieces.Given as goal

abbrev pub invariant-loop-piece : goal.invariant-loop-piece
invariant-loop-piece l =
    l.sample.items ++ sample (map (piece_at l.text) (drop l.piece-index l.pieces)) ≡ l.initial.sample.items ++ sample (map (piece_at l.text) l.pieces)
