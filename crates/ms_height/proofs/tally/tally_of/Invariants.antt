use Rattle.ms_height.specs.Scaffolding.Kept.{heights_in}
use Rattle.ms_height.specs.Scaffolding.Tally.{Counts}
use Rattle.ms_height.proofs.tally.tally_of.Given as goal

abbrev pub invariant-loop-index : goal.invariant-loop-index
invariant-loop-index l = record { counts : Counts l.tally l.index (heights_in l.sats l.dsats) }
