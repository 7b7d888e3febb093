-- The examples, each computed.
use Rattle.std.proofs.Common.{refl}
use Rattle.def_derive.proofs.Computing.{sha512, words512, schedule512, rounds512, compress512, hash_after512, digest_bytes512, hmac_sha512, sha256, sha_words, sha_schedule, sha_rounds, sha_compress, sha_hash_after, sha_digest_bytes, hash256, shortest_digits, read_base58_check, read_extended, extended_of, ripemd160, ripemd_words, ripemd_step, left_line, right_line, combined, ripemd_compress, ripemd_hash_after, ripemd_digest_bytes, hash160, power, on_line, double, chord, ◌⊕◌, multiple, lift, base58_check, extended_text, child_by, child, extended_child}
use Rattle.def_derive.proofs.examples.children.Goals as goal

pub returns-clause-first : goal.returns-clause-first
unfolding sha512 words512 schedule512 rounds512 compress512 hash_after512 digest_bytes512 hmac_sha512 sha256 sha_words
    sha_schedule sha_rounds sha_compress sha_hash_after sha_digest_bytes hash256 shortest_digits read_base58_check
    read_extended extended_of ripemd160 ripemd_words ripemd_step left_line right_line combined ripemd_compress
    ripemd_hash_after ripemd_digest_bytes hash160 power on_line double chord ◌⊕◌ multiple lift base58_check
    extended_text child_by child extended_child
returns-clause-first c = refl

pub returns-clause-second : goal.returns-clause-second
unfolding sha512 words512 schedule512 rounds512 compress512 hash_after512 digest_bytes512 hmac_sha512 sha256 sha_words
    sha_schedule sha_rounds sha_compress sha_hash_after sha_digest_bytes hash256 shortest_digits read_base58_check
    read_extended extended_of ripemd160 ripemd_words ripemd_step left_line right_line combined ripemd_compress
    ripemd_hash_after ripemd_digest_bytes hash160 power on_line double chord ◌⊕◌ multiple lift base58_check
    extended_text child_by child extended_child
returns-clause-second c = refl

pub returns-clause-hardened : goal.returns-clause-hardened
unfolding sha512 words512 schedule512 rounds512 compress512 hash_after512 digest_bytes512 hmac_sha512 sha256 sha_words
    sha_schedule sha_rounds sha_compress sha_hash_after sha_digest_bytes hash256 shortest_digits read_base58_check
    read_extended extended_of ripemd160 ripemd_words ripemd_step left_line right_line combined ripemd_compress
    ripemd_hash_after ripemd_digest_bytes hash160 power on_line double chord ◌⊕◌ multiple lift base58_check
    extended_text child_by child extended_child
returns-clause-hardened c = refl
