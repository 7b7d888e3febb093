-- The examples compute.
use Rattle.def_limits.proofs.examples.limits.Goals as goal
use Rattle.std.proofs.Common.{refl}
use Rattle.def_limits.proofs.Greatest.{limits_by}
use Rattle.sha2.specs.Sha256.{first_words, schedule, rounds as sha_rounds, compress as sha_compress, hash_after as sha_hash_after, digest_bytes as sha_digest_bytes, sha256}
use Rattle.def_hash.specs.Ripemd.{block_words, step, left_line, right_line, combined, compress, hash_after, digest_bytes, ripemd160}
use Rattle.def_hash.specs.Hash.{hash160}

pub returns : goal.returns
unfolding first_words schedule sha_rounds sha_compress sha_hash_after sha_digest_bytes sha256 block_words step left_line right_line combined compress
    hash_after digest_bytes ripemd160 hash160
returns c = record {
  key_limits = limits_by _ _ refl;
  chain_limits = limits_by _ _ refl;
  keys_limits = limits_by _ _ refl;
  key_hash_limits = limits_by _ _ refl;
  lock_limits = limits_by _ _ refl;
  threshold_limits = limits_by _ _ refl;
  either_limits = limits_by _ _ refl;
  locked_threshold_limits = limits_by _ _ refl;
  hash_threshold_limits = limits_by _ _ refl;
  four_children_limits = limits_by _ _ refl;
  each_by_itself = limits_by _ _ refl;
  zero_limits = limits_by _ _ refl;
}
