-- The examples, computed.
use Rattle.std.proofs.Common.{refl}
use Rattle.def_hash.proofs.Computing.{decode_pairs}
use Rattle.def_script.specs.Sizes.{read_size}
use Rattle.def_psbt.specs.Part.{first_bytes, first_number, first_size, first_string, first_many, first_list, whole}
use Rattle.def_psbt.specs.TransactionReading.{first_outpoint, first_input, first_output, first_sides, transaction_of}
use Rattle.ms_psbt_laws.specs.Network.{witnesses_of, network_witnesses_of, SomeWitnesses}

pub some_witnesses : SomeWitnesses
unfolding read_size first_bytes first_number first_size first_string first_many first_list whole first_outpoint first_input first_output first_sides
    transaction_of witnesses_of network_witnesses_of decode_pairs
some_witnesses = (refl, refl, refl)
