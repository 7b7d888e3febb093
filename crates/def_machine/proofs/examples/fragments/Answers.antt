use Rattle.def_machine.proofs.examples.fragments.Goals as goal
use Rattle.std.proofs.Common.{refl}
use Rattle.def_machine.proofs.Computing.{machine}

-- The runs of whole expressions, each computed.
pub returns-clause-both_of_or_b : goal.returns-clause-both_of_or_b
unfolding machine
returns-clause-both_of_or_b c = refl

pub returns-clause-wrong_signature_in_or_b : goal.returns-clause-wrong_signature_in_or_b
unfolding machine
returns-clause-wrong_signature_in_or_b c = refl

pub returns-clause-two_of_three : goal.returns-clause-two_of_three
unfolding machine
returns-clause-two_of_three c = refl

pub returns-clause-key_hash_and_lock : goal.returns-clause-key_hash_and_lock
unfolding machine
returns-clause-key_hash_and_lock c = refl

pub returns-clause-key_hash_before_lock : goal.returns-clause-key_hash_before_lock
unfolding machine
returns-clause-key_hash_before_lock c = refl

pub returns-clause-preimage_of_zeros : goal.returns-clause-preimage_of_zeros
unfolding machine
returns-clause-preimage_of_zeros c = refl
