use Rattle.std.proofs.Common.{arith}
use Rattle.ms_psbt.proofs.Skipping.{output_all}
use Rattle.ms_psbt.proofs.transaction.is_output.Goals as goal

pub returns : goal.returns
returns c = grind (arith, output_all c.args.bytes.now)
