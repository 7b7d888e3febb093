-- The Scripts of the examples compute.
use Rattle.def_sane.proofs.examples.scripts.Goals as goal
use Rattle.std.proofs.Common.{refl}
use Rattle.def_hash.proofs.Computing.{decode_pairs, sha256, sha_words, sha_schedule, sha_rounds, sha_compress, sha_hash_after, sha_digest_bytes, ripemd160, ripemd_words, ripemd_step, left_line, right_line, combined, ripemd_compress, ripemd_hash_after, ripemd_digest_bytes, hash160}

pub returns : goal.returns
unfolding decode_pairs sha256 sha_words sha_schedule sha_rounds sha_compress sha_hash_after sha_digest_bytes ripemd160 ripemd_words ripemd_step
    left_line right_line combined ripemd_compress ripemd_hash_after ripemd_digest_bytes hash160
returns c = record {
  number_scripts = (refl, refl);
  key_script = refl;
  chain_script = refl;
  keys_script = refl;
  key_hash_script = refl;
  lock_scripts = (refl, refl);
  either_key_script = refl;
  threshold_script = refl;
  locked_threshold_script = refl;
}
