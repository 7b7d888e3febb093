use Rattle.std.proofs.Common.{◌≡◌, ◌+◌, ◌≤◌, length}
use Rattle.def_psbt.specs.Map.{map_text}
use Rattle.ms_psbt.specs.Pairs.{pairs_in}
use Rattle.ms_update.specs.Scaffolding.Fronts.{BeginsWithMap}
use Rattle.ms_update.proofs.maps.first_map.Given as goal

-- a map begins the rest, too, and behind both as much is left
abbrev pub invariant-pairs : goal.invariant-pairs
invariant-pairs l =
    BeginsWithMap l.rest × (length l.rest ≤ length l.bytes)
    × (length (map_text (pairs_in l.bytes)) + length l.rest ≡ length (map_text (pairs_in l.rest)) + length l.bytes)

abbrev pub decreases-pairs : goal.decreases-pairs
decreases-pairs l = length l.rest
