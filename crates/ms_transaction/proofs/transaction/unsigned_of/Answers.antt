use Rattle.std.proofs.Common.{arith}
use Rattle.ms_transaction.proofs.Inputs.{all_unsigned}
use Rattle.ms_transaction.proofs.transaction.unsigned_of.Goals as goal

pub returns-clause-unsigned : goal.returns-clause-unsigned
returns-clause-unsigned c = λ transaction e unsigned. all_unsigned c.args.bytes.now transaction (omega arith) (λ i. omega (arith, c.type_inv.bytes i)) e unsigned
