use Rattle.std.proofs.Common.{arith}
use Rattle.def_psbt.specs.TransactionReading.{first_input}
use Rattle.ms_psbt.specs.declared.transaction.Kind.TheVariants as kind
use Rattle.ms_psbt.specs.Scaffolding.Skips.{skip_of}
use Rattle.ms_psbt.proofs.Skipping.{list_rest, input_rest}
use Rattle.ms_psbt.proofs.lists.skip_inputs.Goals as goal

pub returns : goal.returns
returns c = grind (arith, list_rest first_input (skip_of kind.Input) input_rest c.args.bytes.now)
