-- The examples, each computed.
use Rattle.std.proofs.Common.{refl}
use Rattle.def_derive.proofs.Computing.{sha256, sha_words, sha_schedule, sha_rounds, sha_compress, sha_hash_after, sha_digest_bytes, hash256, shortest_digits, read_base58_check, read_extended, extended_of}
use Rattle.def_derive.proofs.examples.refusals.Goals as goal

pub returns-clause-parent : goal.returns-clause-parent
unfolding sha256 sha_words sha_schedule sha_rounds sha_compress sha_hash_after sha_digest_bytes hash256 shortest_digits read_base58_check read_extended extended_of
returns-clause-parent c = refl

pub returns-clause-number : goal.returns-clause-number
unfolding sha256 sha_words sha_schedule sha_rounds sha_compress sha_hash_after sha_digest_bytes hash256 shortest_digits read_base58_check read_extended extended_of
returns-clause-number c = refl
