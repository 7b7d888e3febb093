use Rattle.std.proofs.Common.{◌≡◌, ◌++◌, drop, map}
use Rattle.std.specs.Prelude.{filter}
use Rattle.std.specs.List.{flat_map}
use Rattle.def_psbt.specs.Map.{pair_text}
use Rattle.def_combine.specs.Joined.{is_new}
use Rattle.ms_psbt.specs.Pairs.{pairs_in}
use Rattle.ms_update.specs.Seen.{pair_at}
use Rattle.ms_update.proofs.maps.push_new.Given as goal

abbrev pub invariant-pairs : goal.invariant-pairs
invariant-pairs l =
    l.out.items ++ flat_map pair_text (filter (is_new (pairs_in l.bytes)) (map pair_at (drop l.own-index l.belonging)))
    ≡ l.initial.out.items ++ flat_map pair_text (filter (is_new (pairs_in l.bytes)) (map pair_at l.belonging))
