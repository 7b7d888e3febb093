-- The examples, each computed.
use Rattle.std.proofs.Common.{refl}
use Rattle.def_curve.proofs.Computing.{decode_pairs, power, lift}
use Rattle.def_curve.proofs.examples.keys.Goals as goal

pub returns-clause-generator : goal.returns-clause-generator
unfolding decode_pairs power lift
returns-clause-generator c = refl

pub returns-clause-opposite : goal.returns-clause-opposite
unfolding decode_pairs power lift
returns-clause-opposite c = refl

pub returns-clause-no_root : goal.returns-clause-no_root
unfolding decode_pairs power lift
returns-clause-no_root c = refl

pub returns-clause-not_below_prime : goal.returns-clause-not_below_prime
unfolding decode_pairs power lift
returns-clause-not_below_prime c = refl
