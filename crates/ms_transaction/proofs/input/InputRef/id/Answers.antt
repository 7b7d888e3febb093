use Rattle.std.proofs.Common.{length, ◌∙◌, ap, arith}
use Rattle.def_psbt.specs.Transaction.{TransactionInput}
use Rattle.ms_transaction.proofs.Inputs.{bytes_long, id_is, unsigned_is}
use Rattle.ms_transaction.proofs.input.InputRef.id.Goals as goal

pub part-requires : goal.part-requires
part-requires c = let long = bytes_long c.self.inside.bytes.now c.self.invariant in omega arith

pub returns-clause-id : goal.returns-clause-id
returns-clause-id c = c.part.ensures ∙ id_is c.self.inside.bytes.now c.self.invariant ∙ ap (λ (i : TransactionInput). i.outpoint.id) c.self.view_is

pub returns-clause-long : goal.returns-clause-long
returns-clause-long c = ap length (c.part.ensures ∙ id_is c.self.inside.bytes.now c.self.invariant) ∙ (unsigned_is c.self.inside.bytes.now c.self.invariant).id
