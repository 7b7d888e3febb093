use Rattle.ms_psbt_write.proofs.Extracting.{witness_next}
use Rattle.ms_psbt_write.proofs.network.push_witnesses.Goals as goal

pub inputs-preserved : goal.inputs-preserved
inputs-preserved c =
    witness_next c.args.psbt.now.inputs c.inputs.number c.input_map.result c.final_witness.result.now c.inputs.out.items c.extend_from_slice.new.self.items _
    c.input_map.ensures.map c.final_witness.ensures c.in_ok-extend_from_slice.ensures.items c.inputs.invariant
