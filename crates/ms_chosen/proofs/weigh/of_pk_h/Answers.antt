use Rattle.ms_chosen.proofs.Bounds.{sig_light}
use Rattle.ms_chosen.proofs.weigh.of_pk_h.Goals as goal

pub both-requires-clause-below : goal.both-requires-clause-below
both-requires-clause-below c = sig_light c.args.assets.now c.requires c.args.key.now c.of_signature.result c.of_signature.ensures
