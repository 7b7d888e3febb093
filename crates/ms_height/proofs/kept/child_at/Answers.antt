use Rattle.std.proofs.Common.{◌∙◌}
use Rattle.ms_height.proofs.Keeping.{heights_at}
use Rattle.ms_height.proofs.kept.child_at.Goals as goal

pub returns : goal.returns
returns c = (λ i. record { sat = c.found_in.ensures i; dsat = c.found_in-2.ensures i }) ∙ heights_at c.args.sats.now c.args.dsats.now c.args.index _ _ _ c.requires.sat c.requires.dsat
