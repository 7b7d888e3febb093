-- What is left of the offset, in the pieces that are left.
use Rattle.std.proofs.Common.{◌≡◌, map, drop}
use Rattle.def_descriptor.specs.Pieces.{place_of}
use Rattle.ms_descriptor.specs.Miniscripts.{piece_at}
use Rattle.ms_descriptor.proofs.sample.place_of.Given as goal

abbrev pub invariant-loop-piece : goal.invariant-loop-piece
invariant-loop-piece l =
    place_of l.end (map (piece_at l.text) (drop l.piece-index l.pieces)) l.left ≡ place_of l.end (map (piece_at l.text) l.pieces) l.fn.offset
