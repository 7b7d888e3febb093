use Rattle.std.proofs.Common.{◌∙◌, Some, sym, ap}
use Rattle.def_psbt.specs.Types.{IN_FINAL_SCRIPTWITNESS}
use Rattle.def_spend.specs.Fields.{field}
use Rattle.def_spend.specs.Reading.{has_item}
use Rattle.ms_psbt_write.proofs.Extracting.{any_here, any_next, item_in}
use Rattle.ms_psbt_write.proofs.network.has_witness.Goals as goal

pub returns-then-has_item : goal.returns-then-has_item
returns-then-has_item c =
    any_here (λ fields. has_item (field IN_FINAL_SCRIPTWITNESS fields)) c.args.psbt.now.inputs c.inputs.number c.input_map.result _ c.input_map.ensures.map
    (sym (item_in (field IN_FINAL_SCRIPTWITNESS c.input_map.result)) ∙ ap (λ w. has_item (Some w)) (sym c.final_witness.ensures) ∙ sym c.has_item.ensures ∙ c.if-has_item.true)
    c.inputs.invariant

pub inputs-preserved : goal.inputs-preserved
inputs-preserved c =
    any_next (λ fields. has_item (field IN_FINAL_SCRIPTWITNESS fields)) c.args.psbt.now.inputs c.inputs.number c.input_map.result _ c.input_map.ensures.map
    (sym (item_in (field IN_FINAL_SCRIPTWITNESS c.input_map.result)) ∙ ap (λ w. has_item (Some w)) (sym c.final_witness.ensures) ∙ sym c.has_item.ensures ∙ c.if-has_item.false)
    c.inputs.invariant
