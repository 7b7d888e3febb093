-- What a proof unfolds so that PSBTs that are written out compute.
use Rattle.std.specs.Prelude.{⊤}
use Rattle.base64.proofs.OnLiterals.{base64_on_literals}
use Rattle.def_script.specs.Sizes.{size_bytes, read_size}
use Rattle.def_hash.proofs.Computing.{decode_pairs}
use Rattle.def_psbt.specs.Part.{first_bytes, first_number, first_size, first_string, first_many, first_list, whole}
use Rattle.def_psbt.specs.TransactionReading.{first_outpoint, first_input, first_output, first_sides, transaction_of}
use Rattle.def_psbt.specs.Listed.{global_form, input_form, output_form, shape_fault, pair_fault}
use Rattle.def_psbt.specs.Source.{psbt_bytes, psbt_of}
use Rattle.def_psbt.specs.Reading.{size_at, bytes_at, string_at, pair_at, sound_pair_at, pairs_at, maps_at, read_psbt}

unfoldable pub update_on_literals : ⊤
unfolding base64_on_literals size_bytes read_size decode_pairs first_bytes first_number first_size first_string first_many first_list whole first_outpoint first_input
    first_output first_sides transaction_of global_form input_form output_form shape_fault pair_fault psbt_bytes psbt_of size_at bytes_at string_at pair_at sound_pair_at
    pairs_at maps_at read_psbt
update_on_literals = tt
