use Rattle.std.proofs.Common.{◌≡◌, ◌+◌, ◌||◌, ◌++◌, length, drop}
use Rattle.std.specs.Prelude.{is_some}
use Rattle.std.specs.List.{flat_map, list_any}
use Rattle.def_psbt.specs.Map.{map_text}
use Rattle.def_combine.specs.Joined.{joined_maps}
use Rattle.def_update.specs.Updated.{conflict_among, each_input, known_of_input}
use Rattle.ms_update.proofs.Going.{Left, owns_of}
use Rattle.ms_update.proofs.updating.push_inputs.Given as goal

-- the maps from a number on, and whether something is known of an input
abbrev pub invariant-inputs : goal.invariant-inputs
invariant-inputs g l =
    (Left (owns_of (g.K.Book.known l.known) (drop l.number l.transaction.inputs) (drop l.number l.psbt.inputs)) (drop l.number l.psbt.inputs) l.at l.out.items
    (conflict_among (owns_of (g.K.Book.known l.known) l.transaction.inputs l.psbt.inputs) l.initial.at l.psbt.inputs)
    (l.initial.out.items ++ flat_map map_text (joined_maps l.psbt.inputs (owns_of (g.K.Book.known l.known) l.transaction.inputs l.psbt.inputs)))
    (l.initial.at + length (flat_map map_text l.psbt.inputs)))
    × ((l.has_known || list_any (λ one. is_some one) (each_input (known_of_input (g.K.Book.known l.known)) (drop l.number l.transaction.inputs) (drop l.number l.psbt.inputs)))
    ≡ list_any (λ one. is_some one) (each_input (known_of_input (g.K.Book.known l.known)) l.transaction.inputs l.psbt.inputs))
