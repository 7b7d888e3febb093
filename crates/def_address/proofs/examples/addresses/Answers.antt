-- The examples, each computed.
use Rattle.std.proofs.Common.{refl}
use Rattle.def_address.proofs.Computing.{decode_pairs, sha256, sha_words, sha_schedule, sha_rounds, sha_compress, sha_hash_after, sha_digest_bytes, hash256, shortest_digits, fixed_digits, base58_check, program_address, address_of}
use Rattle.def_address.proofs.examples.addresses.Goals as goal

pub returns-clause-key : goal.returns-clause-key
unfolding decode_pairs sha256 sha_words sha_schedule sha_rounds sha_compress sha_hash_after sha_digest_bytes hash256 shortest_digits fixed_digits base58_check program_address address_of
returns-clause-key c = refl

pub returns-clause-script : goal.returns-clause-script
unfolding decode_pairs sha256 sha_words sha_schedule sha_rounds sha_compress sha_hash_after sha_digest_bytes hash256 shortest_digits fixed_digits base58_check program_address address_of
returns-clause-script c = refl

pub returns-clause-test : goal.returns-clause-test
unfolding decode_pairs sha256 sha_words sha_schedule sha_rounds sha_compress sha_hash_after sha_digest_bytes hash256 shortest_digits fixed_digits base58_check program_address address_of
returns-clause-test c = refl

pub returns-clause-hash : goal.returns-clause-hash
unfolding decode_pairs sha256 sha_words sha_schedule sha_rounds sha_compress sha_hash_after sha_digest_bytes hash256 shortest_digits fixed_digits base58_check program_address address_of
returns-clause-hash c = refl

pub returns-clause-other : goal.returns-clause-other
unfolding decode_pairs sha256 sha_words sha_schedule sha_rounds sha_compress sha_hash_after sha_digest_bytes hash256 shortest_digits fixed_digits base58_check program_address address_of
returns-clause-other c = refl
