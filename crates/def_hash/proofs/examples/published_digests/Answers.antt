use Rattle.def_hash.proofs.examples.published_digests.Goals as goal
use Rattle.def_hash.proofs.Published.{ripemd_of_nothing, ripemd_of_abc, ripemd_of_two_blocks, sha_of_abc, sha_of_zeros, key_hash_of_generator, double_sha_of_hello}

pub returns-clause-ripemd160_of_nothing : goal.returns-clause-ripemd160_of_nothing
returns-clause-ripemd160_of_nothing c = ripemd_of_nothing

pub returns-clause-ripemd160_of_abc : goal.returns-clause-ripemd160_of_abc
returns-clause-ripemd160_of_abc c = ripemd_of_abc

pub returns-clause-ripemd160_of_two_blocks : goal.returns-clause-ripemd160_of_two_blocks
returns-clause-ripemd160_of_two_blocks c = ripemd_of_two_blocks

pub returns-clause-sha256_of_abc : goal.returns-clause-sha256_of_abc
returns-clause-sha256_of_abc c = sha_of_abc

pub returns-clause-sha256_of_zeros : goal.returns-clause-sha256_of_zeros
returns-clause-sha256_of_zeros c = sha_of_zeros

pub returns-clause-hash160_of_generator : goal.returns-clause-hash160_of_generator
returns-clause-hash160_of_generator c = key_hash_of_generator

pub returns-clause-hash256_of_hello : goal.returns-clause-hash256_of_hello
returns-clause-hash256_of_hello c = double_sha_of_hello
