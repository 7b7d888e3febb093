-- The examples compute.
use Rattle.std.proofs.Common.{refl}
use Rattle.def_satisfaction.proofs.Computing.{computing}
use Rattle.def_hash.specs.Hash.{hash256}
use Rattle.def_spend.specs.SignedExamples.{SignedOfTwo, ScriptOfSecond, SignedByType, NoHashType}

pub signed_of_two : SignedOfTwo
unfolding computing hash256
signed_of_two = (refl, refl, refl, refl)

pub script_of_second : ScriptOfSecond
unfolding computing
script_of_second = (refl, refl)

pub signed_by_type : SignedByType
unfolding computing hash256
signed_by_type = ((refl, refl), (refl, refl), (refl, refl), (refl, refl), (refl, refl), (refl, refl))

pub no_hash_type : NoHashType
unfolding computing hash256
no_hash_type = (refl, refl, refl, refl, refl)
