-- The examples, each computed.
use Rattle.std.proofs.Common.{refl}
use Rattle.def_address.proofs.Computing.{decode_pairs, sha256, sha_words, sha_schedule, sha_rounds, sha_compress, sha_hash_after, sha_digest_bytes, hash256, shortest_digits, fixed_digits, read_base58_check, read_program, script_at}
use Rattle.def_address.proofs.examples.scripts.Goals as goal

pub returns-clause-upper_case : goal.returns-clause-upper_case
unfolding decode_pairs sha256 sha_words sha_schedule sha_rounds sha_compress sha_hash_after sha_digest_bytes hash256 shortest_digits fixed_digits read_base58_check read_program script_at
returns-clause-upper_case c = refl

pub returns-clause-both_cases : goal.returns-clause-both_cases
unfolding decode_pairs sha256 sha_words sha_schedule sha_rounds sha_compress sha_hash_after sha_digest_bytes hash256 shortest_digits fixed_digits read_base58_check read_program script_at
returns-clause-both_cases c = refl

pub returns-clause-other_sum : goal.returns-clause-other_sum
unfolding decode_pairs sha256 sha_words sha_schedule sha_rounds sha_compress sha_hash_after sha_digest_bytes hash256 shortest_digits fixed_digits read_base58_check read_program script_at
returns-clause-other_sum c = refl

pub returns-clause-other_length : goal.returns-clause-other_length
unfolding decode_pairs sha256 sha_words sha_schedule sha_rounds sha_compress sha_hash_after sha_digest_bytes hash256 shortest_digits fixed_digits read_base58_check read_program script_at
returns-clause-other_length c = refl

pub returns-clause-bits : goal.returns-clause-bits
unfolding decode_pairs sha256 sha_words sha_schedule sha_rounds sha_compress sha_hash_after sha_digest_bytes hash256 shortest_digits fixed_digits read_base58_check read_program script_at
returns-clause-bits c = refl

pub returns-clause-network : goal.returns-clause-network
unfolding decode_pairs sha256 sha_words sha_schedule sha_rounds sha_compress sha_hash_after sha_digest_bytes hash256 shortest_digits fixed_digits read_base58_check read_program script_at
returns-clause-network c = refl

pub returns-clause-hash : goal.returns-clause-hash
unfolding decode_pairs sha256 sha_words sha_schedule sha_rounds sha_compress sha_hash_after sha_digest_bytes hash256 shortest_digits fixed_digits read_base58_check read_program script_at
returns-clause-hash c = refl
