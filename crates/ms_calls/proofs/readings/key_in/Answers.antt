use Rattle.std.proofs.Common.{arith}
use Rattle.ms_plan_file.proofs.Forms.{key_form}
use Rattle.ms_calls.proofs.readings.key_in.Goals as goal

pub returns-clause-form : goal.returns-clause-form
returns-clause-form c = key_form c.from_bytes.result c.args.bytes.now (λ i. omega (arith, c.type_inv.bytes i)) c.from_bytes.ensures.found
