-- What was fixed so far, and the expressions that are left.
use Rattle.std.proofs.Common.{◌≡◌, drop}
use Rattle.def_descriptor.specs.ReadKey.{NOTHING_SEEN}
use Rattle.def_descriptor.specs.Gives.{seen_in}
use Rattle.ms_descriptor.specs.Expressions.{seen_at}
use Rattle.ms_outputs.specs.Keys.{expressions_in}
use Rattle.ms_descriptor_lines.proofs.shapes.seen_in_pieces.Given as goal

abbrev pub invariant-loop-piece : goal.invariant-loop-piece
invariant-loop-piece l = seen_in (seen_at l.seen) (expressions_in (drop l.piece-index l.pieces)) ≡ seen_in NOTHING_SEEN (expressions_in l.pieces)
