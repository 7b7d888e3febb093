use Rattle.std.proofs.Common.{◌∙◌, List, length, ap}
use Rattle.def_psbt.specs.Transaction.{TransactionInput, TransactionOutput}
use Rattle.ms_transaction.proofs.BothSides.{output_number}
use Rattle.ms_transaction.proofs.sides.Sides.output_count.Goals as goal

pub returns : goal.returns
returns c = output_number c.self.inside.text.now c.self.inside.inputs.now c.self.inside.outputs.now c.self.inside.input_count c.self.inside.output_count
    c.self.invariant ∙ ap (λ (s : List TransactionInput × List TransactionOutput). length s.1) c.self.view_is
