use Rattle.std.proofs.Common.{arith}
use Rattle.def_psbt.specs.TransactionReading.{first_witness}
use Rattle.ms_psbt.specs.Scaffolding.Skips.{witness_skip}
use Rattle.ms_psbt.proofs.Skipping.{many_rest, witness_rest}
use Rattle.ms_psbt.proofs.lists.skip_witnesses.Goals as goal

pub returns : goal.returns
returns c = grind (arith, many_rest first_witness witness_skip witness_rest c.args.count c.args.bytes.now)
