use Rattle.msat_cli.proofs.PolicyTells.{tells_satisfied}
use Rattle.msat_cli.proofs.laws.policy_tells_satisfied.Goals as goal

pub returns : goal.returns
returns c = tells_satisfied
