-- The generators that are left.
use Rattle.std.proofs.Common.{length}
use Rattle.ms_address.proofs.remainder.+chosen.Given as goal

abbrev pub decreases-chosen : goal.decreases-chosen
decreases-chosen l = length l.generators.now
