use Rattle.std.proofs.Common.{◌++◌, ◌∙◌, ap, length}
use Rattle.std.specs.List.{flat_map}
use Rattle.def_psbt.specs.Transaction.{Transaction, input_text, output_text}
use Rattle.def_spend.specs.Finalized.{final_inputs}
use Rattle.ms_psbt_write.proofs.Extracting.{sides_are}
use Rattle.ms_psbt_write.proofs.network.push_sides.Goals as goal

pub returns : goal.returns
returns c =
    sides_are c.args.psbt.now.transaction.inputs c.args.psbt.now.inputs c.args.psbt.now.transaction.outputs c.input_count.result c.output_count.result
    c.args.out.now.items c.push_size.new.out.items c.push_inputs.new.out.items c.push_size-2.new.out.items c.extend_from_slice.new.self.items
    c.input_count.ensures.maps c.input_count.ensures.inputs (c.output_count.ensures ∙ ap (λ (t : Transaction). length t.outputs) c.requires.same)
    c.in_ok-push_size.ensures
    (c.in_ok-push_inputs.ensures ∙ ap (λ (t : Transaction). c.push_size.new.out.items ++ flat_map input_text (final_inputs t.inputs c.args.psbt.now.inputs)) c.requires.same)
    c.in_ok-push_size-2.ensures
    (c.in_ok-extend_from_slice.ensures.items ∙ ap (λ x. c.push_size-2.new.out.items ++ x) (c.output_bytes.ensures ∙ ap (λ (t : Transaction). flat_map output_text t.outputs) c.requires.same))
