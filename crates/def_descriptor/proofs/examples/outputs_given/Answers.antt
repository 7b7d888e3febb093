-- The examples, each computed.
use Rattle.std.proofs.Common.{refl}
use Rattle.hex.proofs.OnLiterals.{hex_on_literals}
use Rattle.def_descriptor.proofs.Computing.{decode_pairs, read_steps, read_numbers, read_ways, read_named, read_key, gather, read_tail, read_parts, extended_of, read_extended, read_base58_check, shortest_digits, sha256, sha_words, sha_schedule, sha_rounds, sha_compress, sha_hash_after, sha_digest_bytes, hash256, power, lift, descriptor_sum, fixed_digits, sha512, words512, schedule512, rounds512, compress512, hash_after512, digest_bytes512, hmac_sha512, ripemd160, ripemd_words, ripemd_step, left_line, right_line, combined, ripemd_compress, ripemd_hash_after, ripemd_digest_bytes, hash160, on_line, double, chord, ◌⊕◌, multiple, base58_check, child_by, child, descendant, program_address, address_of}
use Rattle.def_text.proofs.ByMachine.{read_as}
use Rattle.def_descriptor.proofs.Answering.{right_key, right_text}
use Rattle.def_descriptor.proofs.examples.outputs_given.Goals as goal

pub returns-clause-bip84 : goal.returns-clause-bip84
unfolding decode_pairs hex_on_literals read_steps read_numbers read_ways read_named read_key gather read_tail read_parts extended_of
    read_extended read_base58_check shortest_digits sha256 sha_words sha_schedule sha_rounds sha_compress sha_hash_after sha_digest_bytes
    hash256 power lift descriptor_sum fixed_digits sha512 words512 schedule512 rounds512 compress512 hash_after512 digest_bytes512
    hmac_sha512 ripemd160 ripemd_words ripemd_step left_line right_line combined ripemd_compress ripemd_hash_after ripemd_digest_bytes
    hash160 on_line double chord ◌⊕◌ multiple base58_check child_by child descendant program_address address_of
returns-clause-bip84 c = (_, right_key _ _ _ _ refl refl refl refl, refl, refl)

pub returns-clause-bip49 : goal.returns-clause-bip49
unfolding decode_pairs hex_on_literals read_steps read_numbers read_ways read_named read_key gather read_tail read_parts extended_of
    read_extended read_base58_check shortest_digits sha256 sha_words sha_schedule sha_rounds sha_compress sha_hash_after sha_digest_bytes
    hash256 power lift descriptor_sum fixed_digits sha512 words512 schedule512 rounds512 compress512 hash_after512 digest_bytes512
    hmac_sha512 ripemd160 ripemd_words ripemd_step left_line right_line combined ripemd_compress ripemd_hash_after ripemd_digest_bytes
    hash160 on_line double chord ◌⊕◌ multiple base58_check child_by child descendant program_address address_of
returns-clause-bip49 c = (_, right_key _ _ _ _ refl refl refl refl, refl, refl)

pub returns-clause-bip173 : goal.returns-clause-bip173
unfolding decode_pairs hex_on_literals read_steps read_numbers read_ways read_named read_key gather read_tail read_parts extended_of
    read_extended read_base58_check shortest_digits sha256 sha_words sha_schedule sha_rounds sha_compress sha_hash_after sha_digest_bytes
    hash256 power lift descriptor_sum fixed_digits sha512 words512 schedule512 rounds512 compress512 hash_after512 digest_bytes512
    hmac_sha512 ripemd160 ripemd_words ripemd_step left_line right_line combined ripemd_compress ripemd_hash_after ripemd_digest_bytes
    hash160 on_line double chord ◌⊕◌ multiple base58_check child_by child descendant program_address address_of
returns-clause-bip173 c = (_, right_text _ _ _ _ _ _ _ refl refl refl refl refl refl refl, refl, refl, (_, _, (_, read_as _ _ _ refl refl refl, refl), refl, refl))

pub returns-clause-bip67 : goal.returns-clause-bip67
unfolding decode_pairs hex_on_literals read_steps read_numbers read_ways read_named read_key gather read_tail read_parts extended_of
    read_extended read_base58_check shortest_digits sha256 sha_words sha_schedule sha_rounds sha_compress sha_hash_after sha_digest_bytes
    hash256 power lift descriptor_sum fixed_digits sha512 words512 schedule512 rounds512 compress512 hash_after512 digest_bytes512
    hmac_sha512 ripemd160 ripemd_words ripemd_step left_line right_line combined ripemd_compress ripemd_hash_after ripemd_digest_bytes
    hash160 on_line double chord ◌⊕◌ multiple base58_check child_by child descendant program_address address_of
returns-clause-bip67 c = (_, right_text _ _ _ _ _ _ _ refl refl refl refl refl refl refl, refl, refl, (_, _, (_, read_as _ _ _ refl refl refl, refl), refl, refl))
