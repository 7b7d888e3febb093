use Rattle.std.proofs.Common.{◌≤◌, drop, length}
use Rattle.ms_height.specs.Scaffolding.Choice.{IsChoice}
use Rattle.ms_height.specs.Scaffolding.Kept.{heights_in}
use Rattle.ms_height.proofs.Walks.{left_at}
use Rattle.ms_height.proofs.threshold.chosen_within.Given as goal

abbrev pub invariant-loop-index : goal.invariant-loop-index
invariant-loop-index l = record {
  index : l.index ≤ length l.sats;
  told : IsChoice l.choice l.pluses l.minuses l.bounds.satisfied l.bounds.dissatisfied (left_at l.index) (drop l.index (heights_in l.sats l.dsats));
}

abbrev pub decreases-loop-index : goal.decreases-loop-index
decreases-loop-index l = l.index
