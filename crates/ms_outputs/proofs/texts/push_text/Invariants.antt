-- What was added, before the text of the pieces that are left with the keys that are left.
use Rattle.std.proofs.Common.{◌≡◌, ◌++◌, map, drop}
use Rattle.hex.specs.Hex.{encode_lower}
use Rattle.def_descriptor.specs.Pieces.{text_with}
use Rattle.ms_descriptor.specs.Miniscripts.{piece_at}
use Rattle.ms_outputs.proofs.texts.push_text.Given as goal

abbrev pub invariant-loop-piece : goal.invariant-loop-piece
invariant-loop-piece l =
    l.own.items ++ text_with (map encode_lower l.left) (map (piece_at l.text) (drop l.piece-index l.pieces))
    ≡ l.initial.own.items ++ text_with (map encode_lower l.initial.left) (map (piece_at l.text) l.pieces)
