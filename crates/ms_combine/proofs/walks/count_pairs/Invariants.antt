use Rattle.std.proofs.Common.{◌≡◌, ◌+◌, ◌-◌, length}
use Rattle.ms_combine.specs.Scaffolding.Walk.{places_from}
use Rattle.ms_combine.proofs.Walking.{Left}
use Rattle.ms_combine.proofs.walks.count_pairs.Given as goal

abbrev pub invariant-pairs : goal.invariant-pairs
invariant-pairs l = Left l.bytes l.at (λ places end. l.count + length places ≡ length (places_from l.bytes (length l.bytes) l.from))

abbrev pub decreases-pairs : goal.decreases-pairs
decreases-pairs l = length l.bytes - l.at
