use Rattle.std.proofs.Common.{arith}
use Rattle.def_psbt.specs.TransactionReading.{first_output}
use Rattle.ms_psbt.specs.declared.transaction.Kind.TheVariants as kind
use Rattle.ms_psbt.specs.Scaffolding.Skips.{skip_of}
use Rattle.ms_psbt.proofs.Skipping.{list_rest, output_rest}
use Rattle.ms_psbt.proofs.lists.skip_outputs.Goals as goal

pub returns : goal.returns
returns c = grind (arith, list_rest first_output (skip_of kind.Output) output_rest c.args.bytes.now)
