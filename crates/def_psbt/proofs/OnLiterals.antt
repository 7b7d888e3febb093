-- What a proof unfolds so that a PSBT that is written out computes.
use Rattle.std.specs.Prelude.{⊤}
use Rattle.base64.proofs.OnLiterals.{base64_on_literals}
use Rattle.def_script.specs.Sizes.{size_bytes, read_size}
use Rattle.def_hash.proofs.Computing.{sha256, sha_words, sha_schedule, sha_rounds, sha_compress, sha_hash_after, sha_digest_bytes, hash256, decode_pairs}
use Rattle.def_psbt.specs.Part.{first_bytes, first_number, first_size, first_string, first_many, first_list, whole}
use Rattle.def_psbt.specs.TransactionReading.{first_outpoint, first_input, first_output, first_sides, transaction_of, witnessed_transaction_of, network_transaction_of}
use Rattle.def_psbt.specs.Forms.{first_der_number, is_signature}
use Rattle.def_psbt.specs.Listed.{global_form, input_form, output_form, shape_fault, pair_fault}
use Rattle.def_psbt.specs.Reading.{size_at, bytes_at, string_at, pair_at, sound_pair_at, pairs_at, maps_at, read_psbt}
use Rattle.def_psbt.specs.Source.{psbt_bytes, psbt_of}

unfoldable pub psbt_on_literals : ⊤
unfolding base64_on_literals read_size first_bytes first_number first_size first_string first_many first_list whole first_outpoint first_input first_output
    first_sides transaction_of witnessed_transaction_of network_transaction_of first_der_number is_signature global_form input_form output_form shape_fault pair_fault
    size_at bytes_at string_at pair_at sound_pair_at pairs_at maps_at read_psbt psbt_bytes psbt_of size_bytes decode_pairs sha256 sha_words sha_schedule
    sha_rounds sha_compress sha_hash_after sha_digest_bytes hash256
psbt_on_literals = tt
