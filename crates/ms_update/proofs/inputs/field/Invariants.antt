use Rattle.std.proofs.Common.{◌≡◌}
use Rattle.def_spend.specs.Fields.{field}
use Rattle.ms_update.proofs.inputs.field.Given as goal

abbrev pub invariant-loop-pair : goal.invariant-loop-pair
invariant-loop-pair l =
    (goal.iterator-loop-pair).can_next l.pair-iterator × (goal.iterator-loop-pair).is_finite l.pair-iterator
    × (field l.type_number l.pair-iterator ≡ field l.type_number l.fn.map)
