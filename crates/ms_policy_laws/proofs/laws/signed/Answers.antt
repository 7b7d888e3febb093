use Rattle.ms_policy_laws.proofs.NeedsKey.{sane_wants_key}
use Rattle.ms_policy_laws.proofs.laws.signed.Goals as goal

pub returns : goal.returns
returns c = sane_wants_key
