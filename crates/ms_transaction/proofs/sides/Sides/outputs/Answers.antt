use Rattle.std.proofs.Common.{◌∙◌, List, ap}
use Rattle.std.specs.List.{flat_map}
use Rattle.def_psbt.specs.Transaction.{TransactionInput, TransactionOutput, output_text}
use Rattle.ms_transaction.proofs.BothSides.{outputs_are}
use Rattle.ms_transaction.proofs.sides.Sides.outputs.Goals as goal

pub returns : goal.returns
returns c = outputs_are c.self.inside.outputs.now c.self.invariant.outputs ∙ ap (λ (s : List TransactionInput × List TransactionOutput). flat_map output_text s.1) c.self.view_is
