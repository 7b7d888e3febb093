use Rattle.std.proofs.Common.{◌≡◌, ◌++◌, length, map, take}
use Rattle.ms_combine.specs.Scaffolding.Earliest.{earliest_text, all_places}
use Rattle.ms_combine.specs.Scaffolding.Walk.{behind_from}
use Rattle.ms_combine.proofs.joined.join_map.Given as goal

abbrev pub invariant-maps : goal.invariant-maps
invariant-maps l =
    (l.out.items ≡ l.initial.out.items ++ earliest_text l.bytes l.order.items (all_places l.bytes (take l.place-index l.places)))
    × (l.behind.items ≡ map (behind_from l.bytes (length l.bytes)) (take l.place-index l.places))
