use Rattle.def_machine.proofs.examples.timelocks.Goals as goal
use Rattle.std.proofs.Common.{refl}
use Rattle.def_machine.proofs.Computing.{machine}

-- The runs that show when a timelock holds, each computed.
pub returns-clause-lock_of_minus_one : goal.returns-clause-lock_of_minus_one
unfolding machine
returns-clause-lock_of_minus_one c = refl

pub returns-clause-lock_of_one : goal.returns-clause-lock_of_one
unfolding machine
returns-clause-lock_of_one c = refl

pub returns-clause-lock_of_two : goal.returns-clause-lock_of_two
unfolding machine
returns-clause-lock_of_two c = refl

pub returns-clause-lock_of_height_at_time : goal.returns-clause-lock_of_height_at_time
unfolding machine
returns-clause-lock_of_height_at_time c = refl

pub returns-clause-lock_of_time : goal.returns-clause-lock_of_time
unfolding machine
returns-clause-lock_of_time c = refl

pub returns-clause-lock_with_final_sequence : goal.returns-clause-lock_with_final_sequence
unfolding machine
returns-clause-lock_with_final_sequence c = refl

pub returns-clause-delay_of_minus_one : goal.returns-clause-delay_of_minus_one
unfolding machine
returns-clause-delay_of_minus_one c = refl

pub returns-clause-void_delay : goal.returns-clause-void_delay
unfolding machine
returns-clause-void_delay c = refl

pub returns-clause-delay_of_blocks : goal.returns-clause-delay_of_blocks
unfolding machine
returns-clause-delay_of_blocks c = refl

pub returns-clause-delay_too_long : goal.returns-clause-delay_too_long
unfolding machine
returns-clause-delay_too_long c = refl

pub returns-clause-delay_of_blocks_at_time : goal.returns-clause-delay_of_blocks_at_time
unfolding machine
returns-clause-delay_of_blocks_at_time c = refl

pub returns-clause-delay_of_time : goal.returns-clause-delay_of_time
unfolding machine
returns-clause-delay_of_time c = refl

pub returns-clause-delay_at_void_sequence : goal.returns-clause-delay_at_void_sequence
unfolding machine
returns-clause-delay_at_void_sequence c = refl

pub returns-clause-delay_in_version_one : goal.returns-clause-delay_in_version_one
unfolding machine
returns-clause-delay_in_version_one c = refl

pub returns-clause-delay_outside_mask : goal.returns-clause-delay_outside_mask
unfolding machine
returns-clause-delay_outside_mask c = refl
