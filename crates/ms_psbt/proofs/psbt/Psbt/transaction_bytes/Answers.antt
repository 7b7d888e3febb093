use Rattle.std.proofs.Common.{arith}
use Rattle.ms_psbt.proofs.Holding.{transaction_is, unsigned}
use Rattle.ms_psbt.proofs.psbt.Psbt.transaction_bytes.Goals as goal

pub returns-clause-transaction : goal.returns-clause-transaction
returns-clause-transaction c = grind (arith, transaction_is c.self.invariant)

pub returns-clause-unsigned : goal.returns-clause-unsigned
returns-clause-unsigned c = grind (arith, unsigned c.self.invariant)
