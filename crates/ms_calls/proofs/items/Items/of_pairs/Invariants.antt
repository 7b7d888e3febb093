use Rattle.std.proofs.Common.{◌≡◌, ◌++◌, drop}
use Rattle.ms_calls.specs.Items.{joined}
use Rattle.ms_calls.specs.Ran.{pair_items}
use Rattle.ms_calls.proofs.items.Items.of_pairs.Given as goal

abbrev pub invariant-loop-pair : goal.invariant-loop-pair
invariant-loop-pair l = record {
  bytes : l.bytes.items ++ (joined (pair_items (drop l.pair-index l.pairs))).bytes ≡ (joined (pair_items l.pairs)).bytes;
  lengths : l.lengths.items ++ (joined (pair_items (drop l.pair-index l.pairs))).lengths ≡ (joined (pair_items l.pairs)).lengths;
}
