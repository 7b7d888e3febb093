-- The expressions so far, and those that are left.
use Rattle.std.proofs.Common.{◌≡◌, ◌≤◌, ◌+◌, length, drop}
use Rattle.ms_outputs.specs.Keys.{expressions_in}
use Rattle.ms_descriptor_lines.proofs.shapes.count_in.Given as goal

abbrev pub invariant-loop-piece : goal.invariant-loop-piece
invariant-loop-piece l = record {
  all : l.count + length (expressions_in (drop l.piece-index l.pieces)) ≡ length (expressions_in l.pieces);
  few : l.count ≤ l.piece-index;
}
