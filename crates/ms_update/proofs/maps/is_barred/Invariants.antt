use Rattle.std.proofs.Common.{◌≡◌, drop, map}
use Rattle.def_update.specs.Updated.{conflicts}
use Rattle.ms_update.specs.Seen.{pair_at}
use Rattle.ms_update.proofs.maps.is_barred.Given as goal

abbrev pub invariant-own : goal.invariant-own
invariant-own l =
    conflicts (map pair_at (drop l.own-index l.belonging)) (record { key = l.key; value = l.value }) ≡ conflicts (map pair_at l.belonging) (record { key = l.key; value = l.value })
