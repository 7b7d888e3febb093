use Rattle.std.proofs.Common.{◌≡◌, ◌++◌, drop}
use Rattle.std.specs.List.{flat_map}
use Rattle.def_psbt.specs.Transaction.{input_text}
use Rattle.def_spend.specs.Finalized.{final_inputs}
use Rattle.ms_psbt_write.proofs.network.push_inputs.Given as goal

abbrev pub invariant-inputs : goal.invariant-inputs
invariant-inputs l =
    l.out.items ++ flat_map input_text (final_inputs (drop l.number l.transaction.inputs) (drop l.number l.psbt.inputs))
    ≡ l.initial.out.items ++ flat_map input_text (final_inputs l.transaction.inputs l.psbt.inputs)
