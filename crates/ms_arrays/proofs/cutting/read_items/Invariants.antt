use Rattle.std.proofs.Common.{◌≡◌, ◌++◌, length, sum, drop}
use Rattle.ms_arrays.specs.Pieces.{items_at}
use Rattle.ms_arrays.proofs.cutting.read_items.Given as goal

abbrev pub invariant-loop-length : goal.invariant-loop-length
invariant-loop-length l = record {
  bytes : sum (drop l.length-index l.lengths) ≡ length l.rest;
  stack : l.stack ++ items_at (drop l.length-index l.lengths) l.rest ≡ items_at l.lengths l.bytes;
}
