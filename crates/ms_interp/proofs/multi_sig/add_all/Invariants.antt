use Rattle.std.proofs.Common.{◌≡◌, ◌++◌, take}
use Rattle.ms_interp.proofs.multi_sig.add_all.Given as goal

abbrev pub invariant-loop-pair : goal.invariant-loop-pair
invariant-loop-pair l = l.checks ≡ l.fn.checks ++ take l.pair-index l.found
