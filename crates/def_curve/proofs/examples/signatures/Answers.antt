-- The examples, each computed.
use Rattle.std.proofs.Common.{refl}
use Rattle.def_curve.proofs.Computing.{decode_pairs, first_bytes, first_der_number, is_signature, power, on_line, double, chord, ◌⊕◌, multiple, lift, sum_of, is_signature_by, judge}
use Rattle.def_curve.proofs.examples.signatures.Goals as goal

pub returns-clause-by_one : goal.returns-clause-by_one
unfolding decode_pairs first_bytes first_der_number is_signature power on_line double chord ◌⊕◌ multiple lift sum_of is_signature_by judge
returns-clause-by_one c = refl

pub returns-clause-good : goal.returns-clause-good
unfolding decode_pairs first_bytes first_der_number is_signature power on_line double chord ◌⊕◌ multiple lift sum_of is_signature_by judge
returns-clause-good c = refl

pub returns-clause-high : goal.returns-clause-high
unfolding decode_pairs first_bytes first_der_number is_signature power on_line double chord ◌⊕◌ multiple lift sum_of is_signature_by judge
returns-clause-high c = refl

pub returns-clause-another_hash : goal.returns-clause-another_hash
unfolding decode_pairs first_bytes first_der_number is_signature power on_line double chord ◌⊕◌ multiple lift sum_of is_signature_by judge
returns-clause-another_hash c = refl

pub returns-clause-another_key : goal.returns-clause-another_key
unfolding decode_pairs first_bytes first_der_number is_signature power on_line double chord ◌⊕◌ multiple lift sum_of is_signature_by judge
returns-clause-another_key c = refl
