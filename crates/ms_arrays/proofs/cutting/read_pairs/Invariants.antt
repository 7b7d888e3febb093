use Rattle.std.proofs.Common.{◌≡◌, ◌-◌, ◌*◌, ◌++◌, length, sum, drop}
use Rattle.ms_arrays.specs.Pieces.{KEY_SIZE, pairs_at}
use Rattle.ms_arrays.proofs.cutting.read_pairs.Given as goal

abbrev pub invariant-loop-length : goal.invariant-loop-length
invariant-loop-length l = record {
  keys : length l.keys_left ≡ KEY_SIZE * (length l.lengths - l.length-index);
  signatures : sum (drop l.length-index l.lengths) ≡ length l.signatures_left;
  pairs : l.pairs ++ pairs_at (drop l.length-index l.lengths) l.keys_left l.signatures_left ≡ pairs_at l.lengths l.keys l.signatures;
}
