use Rattle.std.proofs.Common.{◌≡◌, map, take}
use Rattle.ms_combine.specs.Scaffolding.Earliest.{all_places}
use Rattle.ms_combine.specs.Scaffolding.Walk.{marked_at}
use Rattle.ms_combine.proofs.joined.ordered_pairs.Given as goal

abbrev pub invariant-maps : goal.invariant-maps
invariant-maps l = l.order.items ≡ map (marked_at l.bytes) (all_places l.bytes (take l.place-index l.places))
