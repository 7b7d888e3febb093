use Rattle.ms_policy_laws.proofs.OneTransaction.{one_transaction_meets}
use Rattle.ms_policy_laws.proofs.laws.met.Goals as goal

pub returns : goal.returns
returns c = one_transaction_meets
