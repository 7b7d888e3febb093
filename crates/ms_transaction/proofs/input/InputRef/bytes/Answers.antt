use Rattle.std.proofs.Common.{◌∙◌, ap, subst}
use Rattle.def_psbt.specs.Transaction.{input_text}
use Rattle.ms_transaction.specs.Unsigned.{IsUnsigned}
use Rattle.ms_transaction.proofs.Inputs.{text_is, bytes_long, unsigned_is}
use Rattle.ms_transaction.proofs.input.InputRef.bytes.Goals as goal

pub returns-clause-text : goal.returns-clause-text
returns-clause-text c = text_is c.self.inside.bytes.now c.self.invariant ∙ ap input_text c.self.view_is

pub returns-clause-long : goal.returns-clause-long
returns-clause-long c = bytes_long c.self.inside.bytes.now c.self.invariant

pub returns-clause-unsigned : goal.returns-clause-unsigned
returns-clause-unsigned c = subst IsUnsigned c.self.view_is (unsigned_is c.self.inside.bytes.now c.self.invariant)
