-- The keys so far, and the starts that are left.
use Rattle.std.proofs.Common.{drop}
use Rattle.ms_outputs.proofs.Starting.{Goes}
use Rattle.ms_outputs.proofs.keys.keys_from.Given as goal

abbrev pub invariant-loop-start : goal.invariant-loop-start
invariant-loop-start l = Goes l.index l.starts (drop l.start-index l.starts) l.keys.items
