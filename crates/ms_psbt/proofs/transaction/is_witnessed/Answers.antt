use Rattle.std.proofs.Common.{arith}
use Rattle.ms_psbt.proofs.Skipping.{witnessed_all}
use Rattle.ms_psbt.proofs.transaction.is_witnessed.Goals as goal

pub returns : goal.returns
returns c = grind (arith, witnessed_all c.args.bytes.now)
