use Rattle.std.proofs.Common.{◌≡◌, ℕ, ◌≤◌, ◌-◌, length, Ok}
use Rattle.def_psbt.specs.Map.{Map, value_of_type}
use Rattle.def_psbt.specs.Listed.{Form}
use Rattle.def_psbt.specs.Reading.{map_at}
use Rattle.ms_psbt.proofs.Fielding.{InMap}
use Rattle.ms_psbt.proofs.values.value_in.Given as goal

abbrev pub invariant-loop-size : goal.invariant-loop-size
invariant-loop-size l = (l.at ≤ length l.psbt)
    × ((forms : ℕ → Form) (map : Map × ℕ) → map_at forms l.psbt l.from ≡ Ok map → InMap l.psbt l.at (λ rest. value_of_type l.type_number rest ≡ value_of_type l.type_number map.0))

abbrev pub decreases-loop-size : goal.decreases-loop-size
decreases-loop-size l = length l.psbt - l.at
