use Rattle.std.proofs.Common.{◌≡◌, ◌++◌, drop}
use Rattle.ms_held.proofs.assets.copies.Given as goal

-- what was copied and what is left make the whole
abbrev pub invariant-loop-preimage : goal.invariant-loop-preimage
invariant-loop-preimage l = l.made.items ++ drop l.preimage-index l.preimages ≡ l.preimages
