use Rattle.def_emit.proofs.examples.scripts.Goals as goal
use Rattle.std.proofs.Common.{refl}
use Rattle.def_hash.proofs.Computing.{decode_pairs, sha256, sha_words, sha_schedule, sha_rounds, sha_compress, sha_hash_after, sha_digest_bytes, ripemd160, ripemd_words, ripemd_step, left_line, right_line, combined, ripemd_compress, ripemd_hash_after, ripemd_digest_bytes, hash160}

-- The Scripts compute.
pub returns-clause-numbers : goal.returns-clause-numbers
unfolding decode_pairs
returns-clause-numbers c = (refl, refl)

pub returns-clause-locks : goal.returns-clause-locks
unfolding decode_pairs
returns-clause-locks c = (refl, refl, refl, refl, refl, refl)

pub returns-clause-hashes : goal.returns-clause-hashes
unfolding decode_pairs
returns-clause-hashes c = (refl, refl, refl, refl)

pub returns-clause-branches : goal.returns-clause-branches
unfolding decode_pairs
returns-clause-branches c = (refl, refl, refl, refl, refl, refl, refl)

pub returns-clause-lists : goal.returns-clause-lists
unfolding decode_pairs
returns-clause-lists c = (refl, refl, refl, refl)

pub returns-clause-wrappers : goal.returns-clause-wrappers
unfolding decode_pairs
returns-clause-wrappers c = (refl, refl, refl, refl, refl, refl, refl)

pub returns-clause-fused : goal.returns-clause-fused
unfolding decode_pairs
returns-clause-fused c = (refl, refl, refl, refl, refl)

pub returns-clause-not_fused : goal.returns-clause-not_fused
unfolding decode_pairs
returns-clause-not_fused c = (refl, refl, refl, refl, refl)

-- The Scripts compute.
pub returns-clause-keys : goal.returns-clause-keys
unfolding decode_pairs sha256 sha_words sha_schedule sha_rounds sha_compress sha_hash_after sha_digest_bytes ripemd160 ripemd_words ripemd_step left_line
    right_line combined ripemd_compress ripemd_hash_after ripemd_digest_bytes hash160
returns-clause-keys c = (refl, refl)
