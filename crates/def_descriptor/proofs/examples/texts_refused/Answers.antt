-- The examples, each computed.
use Rattle.std.proofs.Common.{refl, lit<}
use Rattle.hex.proofs.OnLiterals.{hex_on_literals}
use Rattle.def_descriptor.proofs.Computing.{decode_pairs, read_steps, read_numbers, read_ways, read_named, read_key, gather, read_tail, read_parts, extended_of, read_extended, read_base58_check, shortest_digits, sha256, sha_words, sha_schedule, sha_rounds, sha_compress, sha_hash_after, sha_digest_bytes, hash256, power, lift, descriptor_sum, fixed_digits}
use Rattle.def_descriptor.specs.Answer.{too_long}
use Rattle.def_descriptor.proofs.Answering.{refused, refused_within, deep_within}
use Rattle.def_descriptor.proofs.examples.texts_refused.Goals as goal

pub returns-clause-other : goal.returns-clause-other
unfolding decode_pairs hex_on_literals read_steps read_numbers read_ways read_named read_key gather read_tail read_parts extended_of
    read_extended read_base58_check shortest_digits sha256 sha_words sha_schedule sha_rounds sha_compress sha_hash_after sha_digest_bytes
    hash256 power lift descriptor_sum fixed_digits
returns-clause-other c = refused _ _ refl refl

pub returns-clause-other_under : goal.returns-clause-other_under
unfolding decode_pairs hex_on_literals read_steps read_numbers read_ways read_named read_key gather read_tail read_parts extended_of
    read_extended read_base58_check shortest_digits sha256 sha_words sha_schedule sha_rounds sha_compress sha_hash_after sha_digest_bytes
    hash256 power lift descriptor_sum fixed_digits
returns-clause-other_under c = refused _ _ refl refl

pub returns-clause-long : goal.returns-clause-long
unfolding decode_pairs hex_on_literals read_steps read_numbers read_ways read_named read_key gather read_tail read_parts extended_of
    read_extended read_base58_check shortest_digits sha256 sha_words sha_schedule sha_rounds sha_compress sha_hash_after sha_digest_bytes
    hash256 power lift descriptor_sum fixed_digits
returns-clause-long c = too_long (lit< tt)

pub returns-clause-deep : goal.returns-clause-deep
unfolding decode_pairs hex_on_literals read_steps read_numbers read_ways read_named read_key gather read_tail read_parts extended_of
    read_extended read_base58_check shortest_digits sha256 sha_words sha_schedule sha_rounds sha_compress sha_hash_after sha_digest_bytes
    hash256 power lift descriptor_sum fixed_digits
returns-clause-deep c = deep_within _ _ _ _ _ _ refl refl refl refl refl refl refl

pub returns-clause-private : goal.returns-clause-private
unfolding decode_pairs hex_on_literals read_steps read_numbers read_ways read_named read_key gather read_tail read_parts extended_of
    read_extended read_base58_check shortest_digits sha256 sha_words sha_schedule sha_rounds sha_compress sha_hash_after sha_digest_bytes
    hash256 power lift descriptor_sum fixed_digits
returns-clause-private c = refused_within _ _ _ _ _ _ refl refl refl refl refl refl refl

pub returns-clause-syntax : goal.returns-clause-syntax
unfolding decode_pairs hex_on_literals read_steps read_numbers read_ways read_named read_key gather read_tail read_parts extended_of
    read_extended read_base58_check shortest_digits sha256 sha_words sha_schedule sha_rounds sha_compress sha_hash_after sha_digest_bytes
    hash256 power lift descriptor_sum fixed_digits
returns-clause-syntax c = refused_within _ _ _ _ _ _ refl refl refl refl refl refl refl

pub returns-clause-word : goal.returns-clause-word
unfolding decode_pairs hex_on_literals read_steps read_numbers read_ways read_named read_key gather read_tail read_parts extended_of
    read_extended read_base58_check shortest_digits sha256 sha_words sha_schedule sha_rounds sha_compress sha_hash_after sha_digest_bytes
    hash256 power lift descriptor_sum fixed_digits
returns-clause-word c = refused_within _ _ _ _ _ _ refl refl refl refl refl refl refl

pub returns-clause-lengths : goal.returns-clause-lengths
unfolding decode_pairs hex_on_literals read_steps read_numbers read_ways read_named read_key gather read_tail read_parts extended_of
    read_extended read_base58_check shortest_digits sha256 sha_words sha_schedule sha_rounds sha_compress sha_hash_after sha_digest_bytes
    hash256 power lift descriptor_sum fixed_digits
returns-clause-lengths c = refused_within _ _ _ _ _ _ refl refl refl refl refl refl refl

pub returns-clause-networks : goal.returns-clause-networks
unfolding decode_pairs hex_on_literals read_steps read_numbers read_ways read_named read_key gather read_tail read_parts extended_of
    read_extended read_base58_check shortest_digits sha256 sha_words sha_schedule sha_rounds sha_compress sha_hash_after sha_digest_bytes
    hash256 power lift descriptor_sum fixed_digits
returns-clause-networks c = refused_within _ _ _ _ _ _ refl refl refl refl refl refl refl
