use Rattle.def_hash.proofs.laws.digests.Goals as goal
use Rattle.def_hash.proofs.Lengths.{digest_has_its_length, digest_has_bytes}

pub returns-clause-length : goal.returns-clause-length
returns-clause-length c = digest_has_its_length

pub returns-clause-bytes : goal.returns-clause-bytes
returns-clause-bytes c = digest_has_bytes
