use Rattle.std.proofs.Common.{◌≡◌, drop}
use Rattle.std.specs.List.{list_any}
use Rattle.def_psbt.specs.Types.{IN_FINAL_SCRIPTWITNESS}
use Rattle.def_spend.specs.Fields.{field}
use Rattle.def_spend.specs.Reading.{has_item}
use Rattle.ms_psbt_write.proofs.network.has_witness.Given as goal

abbrev pub invariant-inputs : goal.invariant-inputs
invariant-inputs l =
    list_any (λ fields. has_item (field IN_FINAL_SCRIPTWITNESS fields)) (drop l.number l.psbt.inputs) ≡ list_any (λ fields. has_item (field IN_FINAL_SCRIPTWITNESS fields)) l.psbt.inputs
