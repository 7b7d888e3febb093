use Rattle.std.proofs.Common.{◌∙◌, ◌++◌, List, ap}
use Rattle.def_psbt.specs.Transaction.{TransactionInput, TransactionOutput, inputs_text, outputs_text}
use Rattle.ms_transaction.proofs.BothSides.{whole_is}
use Rattle.ms_transaction.proofs.sides.Sides.text.Goals as goal

pub returns : goal.returns
returns c = whole_is c.self.inside.text.now c.self.inside.inputs.now c.self.inside.outputs.now c.self.inside.input_count c.self.inside.output_count
    c.self.invariant ∙ ap (λ (s : List TransactionInput × List TransactionOutput). inputs_text s.0 ++ outputs_text s.1) c.self.view_is
