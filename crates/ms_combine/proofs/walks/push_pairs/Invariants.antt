use Rattle.std.proofs.Common.{◌++◌, ◌-◌, length}
use Rattle.ms_combine.specs.Scaffolding.Earliest.{earliest_text}
use Rattle.ms_combine.specs.Scaffolding.Walk.{places_from, behind_from}
use Rattle.ms_combine.proofs.Walking.{Left}
use Rattle.ms_combine.proofs.Pushing.{Pushing}
use Rattle.ms_combine.proofs.walks.push_pairs.Given as goal

abbrev pub invariant-pairs : goal.invariant-pairs
invariant-pairs l =
    Left l.bytes l.at (Pushing l.bytes l.order l.out.items (l.initial.out.items ++ earliest_text l.bytes l.order (places_from l.bytes (length l.bytes) l.from))
    (behind_from l.bytes (length l.bytes) l.from))

abbrev pub decreases-pairs : goal.decreases-pairs
decreases-pairs l = length l.bytes - l.at
