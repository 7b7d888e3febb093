-- Digests computed; and a list whose first element passes a test.
use Rattle.std.proofs.Common.{refl}
use Rattle.std.proofs.lemmas.Slice.Eq.{bytes_eq-Decides}
use Rattle.def_hash.proofs.Computing.{decode_pairs, hash256, sha256, sha_words, sha_schedule, sha_rounds, sha_compress, sha_hash_after, sha_digest_bytes}
use Rattle.def_assets.proofs.examples.assets_hold.Goals as goal

pub returns-clause-shortest_signature : goal.returns-clause-shortest_signature
unfolding decode_pairs
returns-clause-shortest_signature c = (refl, refl)

pub returns-clause-first_of_shortest : goal.returns-clause-first_of_shortest
unfolding decode_pairs
returns-clause-first_of_shortest c = refl

pub returns-clause-no_signature : goal.returns-clause-no_signature
unfolding decode_pairs
returns-clause-no_signature c = (refl, refl)

pub returns-clause-known_preimage : goal.returns-clause-known_preimage
unfolding decode_pairs sha256 sha_words sha_schedule sha_rounds sha_compress sha_hash_after sha_digest_bytes
returns-clause-known_preimage c = refl

pub returns-clause-unknown_preimage : goal.returns-clause-unknown_preimage
unfolding hash256 decode_pairs sha256 sha_words sha_schedule sha_rounds sha_compress sha_hash_after sha_digest_bytes
returns-clause-unknown_preimage c = (refl, refl)

pub returns-clause-first_of_two : goal.returns-clause-first_of_two
returns-clause-first_of_two c = λ kind value former latter first second. rw ((bytes_eq-Decides _ value).1 first) refl
