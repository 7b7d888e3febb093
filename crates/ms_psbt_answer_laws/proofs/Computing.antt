-- What a proof unfolds so that an answer that is written out computes.
use Rattle.std.specs.Prelude.{⊤}
use Rattle.base64.proofs.OnLiterals.{base64_on_literals}
use Rattle.def_script.specs.Sizes.{size_bytes, read_size}
use Rattle.ms_answer_laws.proofs.Computing.{answers_on_literals}
use Rattle.def_psbt.specs.Part.{first_bytes, first_number, first_size, first_string, first_many, first_list, whole}
use Rattle.def_psbt.specs.TransactionReading.{first_outpoint, first_input, first_output, first_sides, transaction_of, witnessed_transaction_of, network_transaction_of}
use Rattle.def_psbt.specs.Forms.{first_der_number, is_signature}
use Rattle.def_psbt.specs.Listed.{global_form, input_form, output_form, shape_fault, pair_fault}
use Rattle.def_psbt.specs.Reading.{size_at, bytes_at, string_at, pair_at, sound_pair_at, pairs_at, maps_at, read_psbt}
use Rattle.def_psbt.specs.Source.{psbt_bytes, psbt_of}
use Rattle.def_psbt_answer.specs.Report.{inspect_report, hashes_report, finalize_report}

unfoldable pub psbt_answers_on_literals : ⊤
unfolding answers_on_literals base64_on_literals read_size size_bytes first_bytes first_number first_size first_string first_many first_list whole
    first_outpoint first_input first_output first_sides transaction_of witnessed_transaction_of network_transaction_of first_der_number is_signature
    global_form input_form output_form shape_fault pair_fault size_at bytes_at string_at pair_at sound_pair_at pairs_at maps_at read_psbt psbt_bytes psbt_of inspect_report
    hashes_report finalize_report
psbt_answers_on_literals = tt
