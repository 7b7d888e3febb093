-- The examples, each computed.
use Rattle.std.proofs.Common.{refl}
use Rattle.def_script.specs.Sizes.{read_size}
use Rattle.ms_witness.specs.Reading.{first_count, first_item, first_items, read_witness}
use Rattle.ms_witness.specs.Examples.{SmallWitnesses, WitnessFaults, FirstFaults}

pub small_witnesses : SmallWitnesses
unfolding read_size first_count first_item first_items read_witness
small_witnesses = refl

pub witness_faults : WitnessFaults
unfolding read_size first_count first_item first_items read_witness
witness_faults = refl

pub first_faults : FirstFaults
unfolding read_size first_count first_item first_items read_witness
first_faults = refl
