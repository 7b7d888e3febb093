use Rattle.std.proofs.Common.{◌<◌, ◌≤◌, length}
use Rattle.ms_psbt.specs.Scaffolding.Repeats.{LeastOf, places_of}
use Rattle.ms_psbt.proofs.repeats.least_repeat.Given as goal

abbrev pub invariant-loop-i : goal.invariant-loop-i
invariant-loop-i l = LeastOf l.keys l.bytes (places_of l.order) l.i l.least × (1 < l.i → l.i ≤ length l.order)
