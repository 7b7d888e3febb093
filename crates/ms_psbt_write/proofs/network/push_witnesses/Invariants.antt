use Rattle.std.proofs.Common.{◌≡◌, ◌++◌, drop, map}
use Rattle.std.specs.List.{flat_map}
use Rattle.def_spend.specs.Finalized.{final_witness}
use Rattle.ms_psbt_write.proofs.network.push_witnesses.Given as goal

abbrev pub invariant-inputs : goal.invariant-inputs
invariant-inputs l =
    l.out.items ++ flat_map (λ witness. witness) (map final_witness (drop l.number l.psbt.inputs))
    ≡ l.initial.out.items ++ flat_map (λ witness. witness) (map final_witness l.psbt.inputs)
