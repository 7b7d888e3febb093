use Rattle.std.proofs.Common.{◌≡◌, length}
use Rattle.def_psbt.specs.Listed.{stands}
use Rattle.ms_psbt.specs.Pairs.{pairs_in}
use Rattle.ms_psbt.specs.Scaffolding.Pairs.{IsMapText}
use Rattle.ms_update.proofs.maps.stands.Given as goal

abbrev pub invariant-pairs : goal.invariant-pairs
invariant-pairs l = IsMapText l.rest × (stands l.key (pairs_in l.rest) ≡ stands l.key (pairs_in l.bytes))

abbrev pub decreases-pairs : goal.decreases-pairs
decreases-pairs l = length l.rest
