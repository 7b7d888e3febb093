-- The examples, each computed.
use Rattle.std.proofs.Common.{refl}
use Rattle.def_derive.proofs.Computing.{decode_pairs, sha512, words512, schedule512, rounds512, compress512, hash_after512, digest_bytes512, hmac_sha512}
use Rattle.def_derive.proofs.examples.codes.Goals as goal

pub returns-clause-hi_there : goal.returns-clause-hi_there
unfolding decode_pairs sha512 words512 schedule512 rounds512 compress512 hash_after512 digest_bytes512 hmac_sha512
returns-clause-hi_there c = refl

pub returns-clause-question : goal.returns-clause-question
unfolding decode_pairs sha512 words512 schedule512 rounds512 compress512 hash_after512 digest_bytes512 hmac_sha512
returns-clause-question c = refl

pub returns-clause-long_key : goal.returns-clause-long_key
unfolding decode_pairs sha512 words512 schedule512 rounds512 compress512 hash_after512 digest_bytes512 hmac_sha512
returns-clause-long_key c = refl
