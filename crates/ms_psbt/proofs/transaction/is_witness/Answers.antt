use Rattle.std.proofs.Common.{arith}
use Rattle.ms_psbt.proofs.Skipping.{witness_all}
use Rattle.ms_psbt.proofs.transaction.is_witness.Goals as goal

pub returns : goal.returns
returns c = grind (arith, witness_all c.args.bytes.now)
