use Rattle.ms_psbt_write.proofs.Extracting.{input_next}
use Rattle.ms_psbt_write.proofs.network.push_inputs.Goals as goal

pub inputs-preserved : goal.inputs-preserved
inputs-preserved c =
    input_next c.args.transaction.now.inputs c.args.psbt.now.inputs c.inputs.number c.input.result c.input_map.result c.final_script_sig-script_sig.result.now
    c.inputs.out.items c.push_input.new.out.items _
    c.input.ensures c.input_map.ensures.map c.final_script_sig-script_sig.ensures c.in_ok-push_input.ensures c.inputs.invariant
