-- The examples, each computed.
use Rattle.std.proofs.Common.{refl}
use Rattle.hex.proofs.OnLiterals.{hex_on_literals}
use Rattle.def_descriptor.proofs.Computing.{decode_pairs, read_steps, read_numbers, read_ways, read_named, read_key, gather, read_tail, read_parts, extended_of, read_extended, read_base58_check, shortest_digits, sha256, sha_words, sha_schedule, sha_rounds, sha_compress, sha_hash_after, sha_digest_bytes, hash256, power, lift, descriptor_sum, fixed_digits}
use Rattle.def_descriptor.proofs.Answering.{refused, refused_behind}
use Rattle.def_descriptor.proofs.examples.keys_refused.Goals as goal

pub returns-clause-sum : goal.returns-clause-sum
unfolding decode_pairs hex_on_literals read_steps read_numbers read_ways read_named read_key gather read_tail read_parts extended_of
    read_extended read_base58_check shortest_digits sha256 sha_words sha_schedule sha_rounds sha_compress sha_hash_after sha_digest_bytes
    hash256 power lift descriptor_sum fixed_digits
returns-clause-sum c = refused_behind _ _ _ _ refl refl refl refl

pub returns-clause-depth : goal.returns-clause-depth
unfolding decode_pairs hex_on_literals read_steps read_numbers read_ways read_named read_key gather read_tail read_parts extended_of
    read_extended read_base58_check shortest_digits sha256 sha_words sha_schedule sha_rounds sha_compress sha_hash_after sha_digest_bytes
    hash256 power lift descriptor_sum fixed_digits
returns-clause-depth c = refused _ _ refl refl

pub returns-clause-hardened : goal.returns-clause-hardened
unfolding decode_pairs hex_on_literals read_steps read_numbers read_ways read_named read_key gather read_tail read_parts extended_of
    read_extended read_base58_check shortest_digits sha256 sha_words sha_schedule sha_rounds sha_compress sha_hash_after sha_digest_bytes
    hash256 power lift descriptor_sum fixed_digits
returns-clause-hardened c = refused _ _ refl refl

pub returns-clause-hardened_index : goal.returns-clause-hardened_index
unfolding decode_pairs hex_on_literals read_steps read_numbers read_ways read_named read_key gather read_tail read_parts extended_of
    read_extended read_base58_check shortest_digits sha256 sha_words sha_schedule sha_rounds sha_compress sha_hash_after sha_digest_bytes
    hash256 power lift descriptor_sum fixed_digits
returns-clause-hardened_index c = refused _ _ refl refl

pub returns-clause-mistyped : goal.returns-clause-mistyped
unfolding decode_pairs hex_on_literals read_steps read_numbers read_ways read_named read_key gather read_tail read_parts extended_of
    read_extended read_base58_check shortest_digits sha256 sha_words sha_schedule sha_rounds sha_compress sha_hash_after sha_digest_bytes
    hash256 power lift descriptor_sum fixed_digits
returns-clause-mistyped c = refused _ _ refl refl

pub returns-clause-version : goal.returns-clause-version
unfolding decode_pairs hex_on_literals read_steps read_numbers read_ways read_named read_key gather read_tail read_parts extended_of
    read_extended read_base58_check shortest_digits sha256 sha_words sha_schedule sha_rounds sha_compress sha_hash_after sha_digest_bytes
    hash256 power lift descriptor_sum fixed_digits
returns-clause-version c = refused _ _ refl refl

pub returns-clause-twice : goal.returns-clause-twice
unfolding decode_pairs hex_on_literals read_steps read_numbers read_ways read_named read_key gather read_tail read_parts extended_of
    read_extended read_base58_check shortest_digits sha256 sha_words sha_schedule sha_rounds sha_compress sha_hash_after sha_digest_bytes
    hash256 power lift descriptor_sum fixed_digits
returns-clause-twice c = refused _ _ refl refl

pub returns-clause-second : goal.returns-clause-second
unfolding decode_pairs hex_on_literals read_steps read_numbers read_ways read_named read_key gather read_tail read_parts extended_of
    read_extended read_base58_check shortest_digits sha256 sha_words sha_schedule sha_rounds sha_compress sha_hash_after sha_digest_bytes
    hash256 power lift descriptor_sum fixed_digits
returns-clause-second c = refused _ _ refl refl

pub returns-clause-no_point : goal.returns-clause-no_point
unfolding decode_pairs hex_on_literals read_steps read_numbers read_ways read_named read_key gather read_tail read_parts extended_of
    read_extended read_base58_check shortest_digits sha256 sha_words sha_schedule sha_rounds sha_compress sha_hash_after sha_digest_bytes
    hash256 power lift descriptor_sum fixed_digits
returns-clause-no_point c = refused _ _ refl refl

pub returns-clause-private : goal.returns-clause-private
unfolding decode_pairs hex_on_literals read_steps read_numbers read_ways read_named read_key gather read_tail read_parts extended_of
    read_extended read_base58_check shortest_digits sha256 sha_words sha_schedule sha_rounds sha_compress sha_hash_after sha_digest_bytes
    hash256 power lift descriptor_sum fixed_digits
returns-clause-private c = refused _ _ refl refl

pub returns-clause-end : goal.returns-clause-end
unfolding decode_pairs hex_on_literals read_steps read_numbers read_ways read_named read_key gather read_tail read_parts extended_of
    read_extended read_base58_check shortest_digits sha256 sha_words sha_schedule sha_rounds sha_compress sha_hash_after sha_digest_bytes
    hash256 power lift descriptor_sum fixed_digits
returns-clause-end c = refused_behind _ _ _ _ refl refl refl refl

pub returns-clause-large : goal.returns-clause-large
unfolding decode_pairs hex_on_literals read_steps read_numbers read_ways read_named read_key gather read_tail read_parts extended_of
    read_extended read_base58_check shortest_digits sha256 sha_words sha_schedule sha_rounds sha_compress sha_hash_after sha_digest_bytes
    hash256 power lift descriptor_sum fixed_digits
returns-clause-large c = refused _ _ refl refl

pub returns-clause-mark : goal.returns-clause-mark
unfolding decode_pairs hex_on_literals read_steps read_numbers read_ways read_named read_key gather read_tail read_parts extended_of
    read_extended read_base58_check shortest_digits sha256 sha_words sha_schedule sha_rounds sha_compress sha_hash_after sha_digest_bytes
    hash256 power lift descriptor_sum fixed_digits
returns-clause-mark c = refused _ _ refl refl
