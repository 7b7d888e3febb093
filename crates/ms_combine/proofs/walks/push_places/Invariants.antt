use Rattle.std.proofs.Common.{◌≡◌, ◌++◌, ◌-◌, length, map}
use Rattle.ms_combine.specs.Scaffolding.Walk.{places_from, marked_at}
use Rattle.ms_combine.proofs.Walking.{Left}
use Rattle.ms_combine.proofs.walks.push_places.Given as goal

abbrev pub invariant-pairs : goal.invariant-pairs
invariant-pairs l =
    Left l.bytes l.at (λ places end. l.order.items ++ map (marked_at l.bytes) places ≡ l.initial.order.items ++ map (marked_at l.bytes) (places_from l.bytes (length l.bytes) l.from))

abbrev pub decreases-pairs : goal.decreases-pairs
decreases-pairs l = length l.bytes - l.at
