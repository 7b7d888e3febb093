use Rattle.std.proofs.Common.{◌≡◌, ℕ, ◌≤◌, ◌-◌, length, Ok}
use Rattle.def_psbt.specs.Map.{Map}
use Rattle.def_psbt.specs.Listed.{Form}
use Rattle.def_psbt.specs.Reading.{map_at}
use Rattle.ms_psbt.proofs.Fielding.{InMap}
use Rattle.ms_psbt.proofs.Finding.{AreSought}
use Rattle.ms_psbt.proofs.inputs.input_fields.Given as goal

abbrev pub invariant-loop-size : goal.invariant-loop-size
invariant-loop-size l = (l.at ≤ length l.psbt)
    × ((forms : ℕ → Form) (map : Map × ℕ) → map_at forms l.psbt l.from ≡ Ok map → InMap l.psbt l.at (λ rest. AreSought l.id l.index l.sequence l.is_locked map.0 rest))

abbrev pub decreases-loop-size : goal.decreases-loop-size
decreases-loop-size l = length l.psbt - l.at
