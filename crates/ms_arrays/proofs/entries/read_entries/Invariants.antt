use Rattle.std.proofs.Common.{◌≡◌, ◌-◌, ◌*◌, ◌++◌, length, drop}
use Rattle.ms_arrays.specs.Pieces.{KEY_SIZE, entries_at}
use Rattle.ms_arrays.proofs.entries.read_entries.Given as goal

abbrev pub invariant-loop-length : goal.invariant-loop-length
invariant-loop-length l = record {
  keys : length l.keys_left ≡ KEY_SIZE * (length l.lengths - l.length-index);
  entries : l.entries.items ++ entries_at (drop l.length-index l.lengths) l.keys_left ≡ entries_at l.lengths l.keys;
}
