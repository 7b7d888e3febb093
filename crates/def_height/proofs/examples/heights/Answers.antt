-- The heights of the examples compute.
use Rattle.def_height.proofs.examples.heights.Goals as goal
use Rattle.std.proofs.Common.{refl}
use Rattle.def_tree.specs.Tree.{just_0}
use Rattle.def_types.specs.Samples.{KEY_B, pk}
use Rattle.def_sane.specs.Allowed.{keys_101, keys_201, largest}
use Rattle.def_limits.specs.Examples.{key_chain_of_three, two_of_three, hashes_or_keys, key_or_hashes, keys_and_lock, hash_or_key}
use Rattle.def_types.proofs.Rows.{correctness_rows}
use Rattle.def_height.specs.Examples.{key_or_key_hash, key_and_lock, key_or_two_hashes}
use Rattle.def_height.proofs.Found.{height_by}

pub returns : goal.returns
unfolding correctness_rows
returns c = record {
  key_height = height_by (pk KEY_B) 2 refl refl;
  chain_height = height_by key_chain_of_three 4 refl refl;
  keys_height = height_by two_of_three 8 refl refl;
  key_hash_height = height_by key_or_key_hash 4 refl refl;
  lock_height = height_by key_and_lock 2 refl refl;
  threshold_height = height_by hashes_or_keys 7 refl refl;
  either_height = height_by key_or_hashes 6 refl refl;
  locked_threshold_height = height_by keys_and_lock 5 refl refl;
  hash_threshold_height = height_by hash_or_key 4 refl refl;
  two_hashes_height = height_by key_or_two_hashes 4 refl refl;
  many_keys_height = height_by keys_101 102 refl refl;
  most_ops_height = height_by keys_201 202 refl refl;
  largest_height = height_by largest 27 refl refl;
  zero_height = height_by just_0 0 refl refl;
}
