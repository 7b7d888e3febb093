use Rattle.std.proofs.Common.{◌∙◌, ap, arith}
use Rattle.def_psbt.specs.Transaction.{TransactionInput}
use Rattle.ms_transaction.proofs.Inputs.{bytes_long, index_is}
use Rattle.ms_transaction.proofs.input.InputRef.index.Goals as goal

pub number_at-requires : goal.number_at-requires
number_at-requires c = let long = bytes_long c.self.inside.bytes.now c.self.invariant in omega arith

pub returns : goal.returns
returns c = c.number_at.ensures ∙ index_is c.self.inside.bytes.now c.self.invariant ∙ ap (λ (i : TransactionInput). i.outpoint.index) c.self.view_is
