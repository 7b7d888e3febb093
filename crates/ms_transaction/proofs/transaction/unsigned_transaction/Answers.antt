use Rattle.ms_transaction.proofs.transaction.unsigned_transaction.Goals as goal

pub returns-clause-unsigned : goal.returns-clause-unsigned
returns-clause-unsigned c = c.unsigned_of.ensures.unsigned c.args.psbt.now.transaction c.transaction_bytes.ensures.transaction c.transaction_bytes.ensures.unsigned
