use Rattle.ms_psbt.proofs.Sizes.{place_within}
use Rattle.ms_psbt.proofs.pairs.wide_size_at.Goals as goal

pub returns-in-Ok-clause-within : goal.returns-in-Ok-clause-within
returns-in-Ok-clause-within c = (place_within c.args.psbt.now c.args.at c.in-Ok.read c.requires c.in-Ok.ensures).1

pub returns-in-Ok-clause-later : goal.returns-in-Ok-clause-later
returns-in-Ok-clause-later c = (place_within c.args.psbt.now c.args.at c.in-Ok.read c.requires c.in-Ok.ensures).0
