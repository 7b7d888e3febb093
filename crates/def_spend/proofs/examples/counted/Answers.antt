-- Which signatures count, each computed.
use Rattle.std.proofs.Common.{refl}
use Rattle.def_satisfaction.proofs.Computing.{computing}
use Rattle.def_hash.specs.Hash.{hash256}
use Rattle.def_script.specs.Sizes.{read_size}
use Rattle.def_psbt.specs.Part.{first_number, first_size, first_string, whole}
use Rattle.def_psbt.specs.TransactionReading.{first_output}
use Rattle.def_curve.proofs.Computing.{first_bytes, first_der_number, is_signature, power, on_line, double, chord, ◌⊕◌, multiple, lift, sum_of, is_signature_by, judge}
use Rattle.def_spend.proofs.examples.counted.Goals as goal

pub returns-clause-published : goal.returns-clause-published
unfolding computing hash256 read_size first_bytes first_number first_size first_string whole first_output first_der_number is_signature power on_line double chord
    ◌⊕◌ multiple lift sum_of is_signature_by judge
returns-clause-published c = (refl, refl, refl)

pub returns-clause-high : goal.returns-clause-high
unfolding computing hash256 read_size first_bytes first_number first_size first_string whole first_output first_der_number is_signature power on_line double chord
    ◌⊕◌ multiple lift sum_of is_signature_by judge
returns-clause-high c = (refl, refl, refl)

pub returns-clause-other_type : goal.returns-clause-other_type
unfolding computing hash256 read_size first_bytes first_number first_size first_string whole first_output first_der_number is_signature power on_line double chord
    ◌⊕◌ multiple lift sum_of is_signature_by judge
returns-clause-other_type c = (refl, refl, refl)

pub returns-clause-no_type : goal.returns-clause-no_type
unfolding computing hash256 read_size first_bytes first_number first_size first_string whole first_output first_der_number is_signature power on_line double chord
    ◌⊕◌ multiple lift sum_of is_signature_by judge
returns-clause-no_type c = (refl, refl, refl)
