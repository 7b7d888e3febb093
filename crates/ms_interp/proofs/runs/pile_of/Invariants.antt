use Rattle.std.proofs.Common.{◌≡◌, take}
use Rattle.std.specs.Prelude.{reverse}
use Rattle.ms_interp.proofs.runs.pile_of.Given as goal

abbrev pub invariant-loop-i : goal.invariant-loop-i
invariant-loop-i l = l.pile ≡ reverse (take l.i l.stack)
