use Rattle.std.proofs.Common.{arith}
use Rattle.ms_reading.proofs.Pushes.{key_by}
use Rattle.ms_reading.proofs.leaves.read_key.Goals as goal

pub returns : goal.returns
returns c = key_by c.from_bytes.result c.args.bytes.now (λ i. omega (arith, c.type_inv.bytes i)) c.from_bytes.ensures.found c.from_bytes.ensures.value
