-- The reasons compute.
use Rattle.def_sane.proofs.examples.reasons.Goals as goal
use Rattle.std.proofs.Common.{refl}
use Rattle.sha2.specs.Sha256.{first_words, schedule, rounds as sha_rounds, compress as sha_compress, hash_after as sha_hash_after, digest_bytes as sha_digest_bytes, sha256}
use Rattle.def_hash.specs.Ripemd.{block_words, step, left_line, right_line, combined, compress, hash_after, digest_bytes, ripemd160}
use Rattle.def_hash.specs.Hash.{hash160}
use Rattle.def_types.proofs.Rows.{correctness_rows, malleability_rows}
use Rattle.def_limits.proofs.Greatest.{limits_exist, limits_by}
use Rattle.def_sane.specs.TheLimits.{the_limits}

pub returns : goal.returns
unfolding the_limits limits_exist correctness_rows malleability_rows first_words schedule sha_rounds sha_compress sha_hash_after sha_digest_bytes sha256 block_words step left_line
    right_line combined compress hash_after digest_bytes ripemd160 hash160
returns c = record {
  sane_ones = (refl, refl, refl, refl, refl, refl, refl);
  one_needs_no_signature = (refl, refl);
  verify_on_top = refl;
  no_lock = refl;
  malleable_or = refl;
  malleable_threshold = (refl, refl);
  height_and_time = refl;
  height_or_time_is_sane = (refl, limits_by _ _ refl);
  same_key = refl;
  many_wrappers = refl;
  most_items = (refl, limits_by _ _ refl);
  too_many_items = refl;
  most_ops = refl;
  too_many_ops = refl;
  most_size = (refl, limits_by _ _ refl);
  too_large = refl;
}
