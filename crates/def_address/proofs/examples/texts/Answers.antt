-- The examples, each computed.
use Rattle.std.proofs.Common.{refl}
use Rattle.def_address.proofs.Computing.{decode_pairs, shortest_digits}
use Rattle.def_address.proofs.examples.texts.Goals as goal

pub returns-clause-three : goal.returns-clause-three
unfolding decode_pairs shortest_digits
returns-clause-three c = refl

pub returns-clause-zeros : goal.returns-clause-zeros
unfolding decode_pairs shortest_digits
returns-clause-zeros c = refl

pub returns-clause-address : goal.returns-clause-address
unfolding decode_pairs shortest_digits
returns-clause-address c = refl

pub returns-clause-bytes : goal.returns-clause-bytes
unfolding decode_pairs shortest_digits
returns-clause-bytes c = refl

pub returns-clause-none : goal.returns-clause-none
unfolding decode_pairs shortest_digits
returns-clause-none c = refl
