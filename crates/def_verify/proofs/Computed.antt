-- The examples compute.
use Rattle.std.proofs.Common.{refl}
use Rattle.def_satisfaction.proofs.Computing.{computing}
use Rattle.def_hash.specs.Hash.{hash160}
use Rattle.def_verify.specs.Examples.{OtherBytes, Native, Nested, KeyHash, Other}

pub other_bytes : OtherBytes
other_bytes = (refl, refl, refl, refl, refl, refl, refl)

pub native : Native
unfolding computing
native = (refl, refl, refl, refl)

pub nested : Nested
unfolding computing hash160
nested = (refl, refl, refl, refl, refl)

pub key_hash : KeyHash
unfolding computing
key_hash = (refl, refl, refl)

pub other : Other
unfolding computing
other = (refl, refl)
