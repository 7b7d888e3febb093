use Rattle.ms_policy_laws.proofs.Satisfied.{policy_of_sane}
use Rattle.ms_policy_laws.proofs.laws.satisfied.Goals as goal

pub returns : goal.returns
returns c = policy_of_sane
