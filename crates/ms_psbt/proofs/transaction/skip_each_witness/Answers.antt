use Rattle.std.proofs.Common.{arith}
use Rattle.ms_psbt.specs.Scaffolding.Skips.{witness_skip}
use Rattle.ms_psbt.proofs.Skipping.{skips_next, skips_done}
use Rattle.ms_psbt.proofs.transaction.skip_each_witness.Goals as goal

pub returns-in_err-rest : goal.returns-in_err-rest
returns-in_err-rest c = grind (arith, skips_next (witness_skip) c.args.count c.loop.counter)

pub loop-preserved : goal.loop-preserved
loop-preserved c = grind (arith, skips_next (witness_skip) c.args.count c.loop.counter)

pub returns : goal.returns
returns c = grind (arith, skips_done (witness_skip) c.args.count c.loop.counter)
