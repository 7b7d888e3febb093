use Rattle.std.proofs.Common.{◌≡◌, ◌+◌, ◌-◌, ◌≤◌, length, map}
use Rattle.def_update.specs.Updated.{conflict_in}
use Rattle.ms_psbt.specs.Pairs.{pairs_in}
use Rattle.ms_psbt.specs.Scaffolding.Pairs.{IsMapText}
use Rattle.ms_update.specs.Seen.{pair_at}
use Rattle.ms_update.proofs.maps.conflict_in.Given as goal

abbrev pub invariant-pairs : goal.invariant-pairs
invariant-pairs l =
    IsMapText l.rest × (length l.rest ≤ length l.bytes)
    × (conflict_in (map pair_at l.belonging) (l.at + (length l.bytes - length l.rest)) (pairs_in l.rest) ≡ conflict_in (map pair_at l.belonging) l.at (pairs_in l.bytes))

abbrev pub decreases-pairs : goal.decreases-pairs
decreases-pairs l = length l.rest
