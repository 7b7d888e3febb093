use Rattle.std.proofs.Common.{refl}
use Rattle.ms_psbt.specs.Scaffolding.Skips.{list_skip}
use Rattle.ms_psbt.proofs.transaction.skip_list.Goals as goal

pub returns : goal.returns
unfolding list_skip
returns c = rw (c.in_ok-count.ensures, c.in_ok-rest.ensures) refl
