use Rattle.def_policy.proofs.Sizes.{plain_is_small}
use Rattle.def_policy.proofs.laws.plain.Goals as goal

pub returns : goal.returns
returns c = plain_is_small
