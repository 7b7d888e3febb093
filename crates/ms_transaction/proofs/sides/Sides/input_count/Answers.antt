use Rattle.std.proofs.Common.{◌∙◌, List, length, ap}
use Rattle.def_psbt.specs.Transaction.{TransactionInput, TransactionOutput}
use Rattle.ms_transaction.proofs.BothSides.{input_number}
use Rattle.ms_transaction.proofs.sides.Sides.input_count.Goals as goal

pub returns : goal.returns
returns c = input_number c.self.inside.text.now c.self.inside.inputs.now c.self.inside.outputs.now c.self.inside.input_count c.self.inside.output_count
    c.self.invariant ∙ ap (λ (s : List TransactionInput × List TransactionOutput). length s.0) c.self.view_is
