use Rattle.std.proofs.Common.{◌≡◌, ℕ, ◌≤◌, ◌-◌, ◌||◌, length, is_some, Ok}
use Rattle.def_psbt.specs.Map.{Map, pair_of_type}
use Rattle.def_psbt.specs.Listed.{Form}
use Rattle.def_psbt.specs.Reading.{map_at}
use Rattle.ms_psbt.proofs.Fielding.{InMap}
use Rattle.ms_psbt.proofs.values.has_both.Given as goal

abbrev pub invariant-loop-size : goal.invariant-loop-size
invariant-loop-size l = (l.at ≤ length l.psbt)
    × ((forms : ℕ → Form) (map : Map × ℕ) → map_at forms l.psbt l.from ≡ Ok map
    → InMap l.psbt l.at (λ rest. ((l.has_first || is_some (pair_of_type l.first rest)) ≡ is_some (pair_of_type l.first map.0))
    × ((l.has_second || is_some (pair_of_type l.second rest)) ≡ is_some (pair_of_type l.second map.0))))

abbrev pub decreases-loop-size : goal.decreases-loop-size
decreases-loop-size l = length l.psbt - l.at
