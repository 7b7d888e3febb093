-- As many maps as the transaction has inputs and outputs.
use Rattle.std.proofs.Common.{◌≡◌, length, sym, ap, ◌∙◌}
use Rattle.std.proofs.lemmas.List.{length-map}
use Rattle.def_psbt.specs.Map.{Psbt}
use Rattle.def_psbt.specs.Fields.{input_of, output_of}
use Rattle.def_psbt.specs.Reading.{Outline, given, counted, input_count, output_count, transaction_by}
use Rattle.def_psbt.specs.Laws.{IsSound}

pub as_many_inputs : (psbt : Psbt) → IsSound psbt → length psbt.inputs ≡ length psbt.transaction.inputs
as_many_inputs psbt sound = go sound.outline sound.each_input ∙ ap (λ t. length t.inputs) (sym sound.transaction)
  where
    go : (outline : Outline) → length psbt.inputs ≡ input_count outline → length psbt.inputs ≡ length (transaction_by outline psbt.global psbt.inputs psbt.outputs).inputs
    go (given transaction) e = e
    go (counted inputs outputs) e = sym (length-map psbt.inputs input_of)

pub as_many_outputs : (psbt : Psbt) → IsSound psbt → length psbt.outputs ≡ length psbt.transaction.outputs
as_many_outputs psbt sound = go sound.outline sound.each_output ∙ ap (λ t. length t.outputs) (sym sound.transaction)
  where
    go : (outline : Outline) → length psbt.outputs ≡ output_count outline → length psbt.outputs ≡ length (transaction_by outline psbt.global psbt.inputs psbt.outputs).outputs
    go (given transaction) e = e
    go (counted inputs outputs) e = sym (length-map psbt.outputs output_of)
