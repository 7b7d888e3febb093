-- Published digests, each computed.
use Rattle.std.proofs.Common.{refl}
use Rattle.sha2.specs.Sha256.{first_words, schedule, rounds as sha_rounds, compress as sha_compress, hash_after as sha_hash_after, digest_bytes as sha_digest_bytes, sha256}
use Rattle.def_hash.specs.Ripemd.{block_words, step, left_line, right_line, combined, compress, hash_after, digest_bytes, ripemd160}
use Rattle.def_hash.specs.Hash.{hash160, hash256}
use Rattle.hex.specs.Hex.{decode_pairs}
use Rattle.def_hash.specs.Examples.{RipemdOfNothing, RipemdOfAbc, RipemdOfTwoBlocks, ShaOfAbc, ShaOfZeros, KeyHashOfGenerator, DoubleShaOfHello}

pub ripemd_of_nothing : RipemdOfNothing
unfolding block_words step left_line right_line combined compress hash_after digest_bytes ripemd160 decode_pairs
ripemd_of_nothing = refl

pub ripemd_of_abc : RipemdOfAbc
unfolding block_words step left_line right_line combined compress hash_after digest_bytes ripemd160 decode_pairs
ripemd_of_abc = refl

pub ripemd_of_two_blocks : RipemdOfTwoBlocks
unfolding block_words step left_line right_line combined compress hash_after digest_bytes ripemd160 decode_pairs
ripemd_of_two_blocks = refl

pub sha_of_abc : ShaOfAbc
unfolding first_words schedule sha_rounds sha_compress sha_hash_after sha_digest_bytes sha256 decode_pairs
sha_of_abc = refl

pub sha_of_zeros : ShaOfZeros
unfolding first_words schedule sha_rounds sha_compress sha_hash_after sha_digest_bytes sha256 decode_pairs
sha_of_zeros = refl

pub double_sha_of_hello : DoubleShaOfHello
unfolding first_words schedule sha_rounds sha_compress sha_hash_after sha_digest_bytes sha256 hash256 decode_pairs
double_sha_of_hello = refl

pub key_hash_of_generator : KeyHashOfGenerator
unfolding first_words schedule sha_rounds sha_compress sha_hash_after sha_digest_bytes sha256 block_words step left_line right_line combined compress
    hash_after digest_bytes ripemd160 hash160 decode_pairs
key_hash_of_generator = refl
