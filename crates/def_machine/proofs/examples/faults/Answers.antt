use Rattle.def_machine.proofs.examples.faults.Goals as goal
use Rattle.std.proofs.Common.{refl}
use Rattle.def_machine.proofs.Computing.{machine}

-- The runs that show the faults, each computed.
pub returns-clause-script_too_long : goal.returns-clause-script_too_long
unfolding machine
returns-clause-script_too_long c = refl

pub returns-clause-given_element_too_long : goal.returns-clause-given_element_too_long
unfolding machine
returns-clause-given_element_too_long c = refl

pub returns-clause-push_too_long : goal.returns-clause-push_too_long
unfolding machine
returns-clause-push_too_long c = refl

pub returns-clause-push_without_length : goal.returns-clause-push_without_length
unfolding machine
returns-clause-push_without_length c = refl

pub returns-clause-push_without_byte : goal.returns-clause-push_without_byte
unfolding machine
returns-clause-push_without_byte c = refl

pub returns-clause-long_push_of_one : goal.returns-clause-long_push_of_one
unfolding machine
returns-clause-long_push_of_one c = refl

pub returns-clause-long_push_not_carried_out : goal.returns-clause-long_push_not_carried_out
unfolding machine
returns-clause-long_push_not_carried_out c = refl

pub returns-clause-nop_not_carried_out : goal.returns-clause-nop_not_carried_out
unfolding machine
returns-clause-nop_not_carried_out c = refl

pub returns-clause-too_many_opcodes : goal.returns-clause-too_many_opcodes
unfolding machine
returns-clause-too_many_opcodes c = refl

pub returns-clause-most_opcodes : goal.returns-clause-most_opcodes
unfolding machine
returns-clause-most_opcodes c = refl

pub returns-clause-skipped_opcode_counted : goal.returns-clause-skipped_opcode_counted
unfolding machine
returns-clause-skipped_opcode_counted c = refl

pub returns-clause-most_opcodes_with_keys : goal.returns-clause-most_opcodes_with_keys
unfolding machine
returns-clause-most_opcodes_with_keys c = refl

pub returns-clause-too_many_opcodes_with_keys : goal.returns-clause-too_many_opcodes_with_keys
unfolding machine
returns-clause-too_many_opcodes_with_keys c = refl

pub returns-clause-dup_of_nothing : goal.returns-clause-dup_of_nothing
unfolding machine
returns-clause-dup_of_nothing c = refl

pub returns-clause-nothing_moved_back : goal.returns-clause-nothing_moved_back
unfolding machine
returns-clause-nothing_moved_back c = refl

pub returns-clause-if_without_end_if : goal.returns-clause-if_without_end_if
unfolding machine
returns-clause-if_without_end_if c = refl

pub returns-clause-end_if_without_if : goal.returns-clause-end_if_without_if
unfolding machine
returns-clause-end_if_without_if c = refl

pub returns-clause-else_without_if : goal.returns-clause-else_without_if
unfolding machine
returns-clause-else_without_if c = refl

pub returns-clause-if_of_two : goal.returns-clause-if_of_two
unfolding machine
returns-clause-if_of_two c = refl

pub returns-clause-if_of_two_bytes : goal.returns-clause-if_of_two_bytes
unfolding machine
returns-clause-if_of_two_bytes c = refl

pub returns-clause-verify_of_false : goal.returns-clause-verify_of_false
unfolding machine
returns-clause-verify_of_false c = refl

pub returns-clause-number_with_zero_byte : goal.returns-clause-number_with_zero_byte
unfolding machine
returns-clause-number_with_zero_byte c = refl

pub returns-clause-number_of_five_bytes : goal.returns-clause-number_of_five_bytes
unfolding machine
returns-clause-number_of_five_bytes c = refl

pub returns-clause-short_key : goal.returns-clause-short_key
unfolding machine
returns-clause-short_key c = refl

pub returns-clause-key_of_other_form : goal.returns-clause-key_of_other_form
unfolding machine
returns-clause-key_of_other_form c = refl

pub returns-clause-empty_signature : goal.returns-clause-empty_signature
unfolding machine
returns-clause-empty_signature c = refl

pub returns-clause-unknown_signature : goal.returns-clause-unknown_signature
unfolding machine
returns-clause-unknown_signature c = refl

pub returns-clause-known_signature : goal.returns-clause-known_signature
unfolding machine
returns-clause-known_signature c = refl

pub returns-clause-signatures_out_of_order : goal.returns-clause-signatures_out_of_order
unfolding machine
returns-clause-signatures_out_of_order c = refl

pub returns-clause-extra_element_of_one : goal.returns-clause-extra_element_of_one
unfolding machine
returns-clause-extra_element_of_one c = refl

pub returns-clause-too_many_keys : goal.returns-clause-too_many_keys
unfolding machine
returns-clause-too_many_keys c = refl

pub returns-clause-less_than_no_keys : goal.returns-clause-less_than_no_keys
unfolding machine
returns-clause-less_than_no_keys c = refl

pub returns-clause-too_many_signatures : goal.returns-clause-too_many_signatures
unfolding machine
returns-clause-too_many_signatures c = refl

pub returns-clause-less_than_no_signatures : goal.returns-clause-less_than_no_signatures
unfolding machine
returns-clause-less_than_no_signatures c = refl

pub returns-clause-too_many_elements : goal.returns-clause-too_many_elements
unfolding machine
returns-clause-too_many_elements c = refl

pub returns-clause-too_many_elements_on_both : goal.returns-clause-too_many_elements_on_both
unfolding machine
returns-clause-too_many_elements_on_both c = refl

pub returns-clause-two_elements_left : goal.returns-clause-two_elements_left
unfolding machine
returns-clause-two_elements_left c = refl

pub returns-clause-no_element_left : goal.returns-clause-no_element_left
unfolding machine
returns-clause-no_element_left c = refl

pub returns-clause-negative_zero_left : goal.returns-clause-negative_zero_left
unfolding machine
returns-clause-negative_zero_left c = refl
