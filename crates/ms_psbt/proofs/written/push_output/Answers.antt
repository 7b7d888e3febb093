use Rattle.std.proofs.Common.{is_some, true, ◌&&◌, ◌∙◌}
use Rattle.std.proofs.lemmas.Bool.{and_parts}
use Rattle.def_psbt.specs.declared.PsbtVersion.TheVariants as version
use Rattle.def_psbt.specs.Listed.{output_form}
use Rattle.def_psbt.specs.Map.{pair_of_type}
use Rattle.ms_psbt.proofs.Locking.{has_value, amount_is_long}
use Rattle.ms_psbt.proofs.Texts.{output_is, amount_there}
use Rattle.ms_psbt.proofs.written.push_output.Goals as goal

pub returns : goal.returns
returns c = λ map e needed.
    let there = has_value 0x03 map.0 ((and_parts (is_some (pair_of_type 0x03 map.0)) (is_some (pair_of_type 0x04 map.0) && true) needed).0) in
    output_is c.args.out.now.items c.value_or-script.result.now _ _ c.amount_in-amount.result map.0
    (c.amount_in-amount.ensures (output_form version.Two) map there.0 e there.1 (amount_is_long c.args.psbt.now c.args.from map there.0 e there.1) ∙ amount_there 0x03 map.0 there.0 there.1)
    (c.value_or-script.ensures (output_form version.Two) map e)
    c.in_ok-push_amount.ensures c.in_ok-push_sized.ensures
