-- Each of the six is computed: it is the hash of the same ten fields.
use Rattle.std.proofs.Common.{refl}
use Rattle.def_verify.proofs.laws.hashes.Goals as goal

pub returns : goal.returns
returns c = record { of_types = (λ spend. refl, λ spend. refl, λ spend. refl, λ spend. refl, λ spend. refl, λ spend. refl) }
