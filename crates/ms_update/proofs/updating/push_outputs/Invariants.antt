use Rattle.std.proofs.Common.{◌+◌, ◌++◌, length}
use Rattle.std.specs.List.{flat_map}
use Rattle.def_psbt.specs.Map.{map_text}
use Rattle.def_combine.specs.Joined.{joined_maps}
use Rattle.def_update.specs.Updated.{conflict_among}
use Rattle.ms_update.proofs.Going.{OutputsLeft, owns_of_outputs}
use Rattle.ms_update.proofs.updating.push_outputs.Given as goal

-- the maps of the outputs that are left
abbrev pub invariant-outputs : goal.invariant-outputs
invariant-outputs g l =
    OutputsLeft (g.K.Book.known l.known) l.output-iterator l.rest l.at l.out.items
    (conflict_among (owns_of_outputs (g.K.Book.known l.known) l.psbt.transaction.outputs) l.initial.at l.psbt.outputs)
    (l.initial.out.items ++ flat_map map_text (joined_maps l.psbt.outputs (owns_of_outputs (g.K.Book.known l.known) l.psbt.transaction.outputs)))
    (l.initial.at + length (flat_map map_text l.psbt.outputs))
