use Rattle.std.proofs.Common.{◌∙◌, List, ap}
use Rattle.std.specs.List.{flat_map}
use Rattle.def_psbt.specs.Transaction.{TransactionInput, TransactionOutput, input_text}
use Rattle.ms_transaction.proofs.BothSides.{inputs_are}
use Rattle.ms_transaction.proofs.sides.Sides.inputs.Goals as goal

pub returns : goal.returns
returns c = inputs_are c.self.inside.inputs.now c.self.invariant.inputs ∙ ap (λ (s : List TransactionInput × List TransactionOutput). flat_map input_text s.0) c.self.view_is
