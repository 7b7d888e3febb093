-- The examples, each computed.
use Rattle.std.proofs.Common.{refl}
use Rattle.def_address.proofs.Computing.{fixed_digits, descriptor_sum}
use Rattle.def_address.proofs.examples.checksums.Goals as goal

pub returns-clause-raw : goal.returns-clause-raw
unfolding fixed_digits descriptor_sum
returns-clause-raw c = refl

pub returns-clause-line_end : goal.returns-clause-line_end
unfolding fixed_digits descriptor_sum
returns-clause-line_end c = refl
