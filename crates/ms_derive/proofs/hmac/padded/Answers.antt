-- One byte more.
use Rattle.std.proofs.Common.{arith, rules}
use Rattle.ms_derive.proofs.Blocks.{padded_more}
use Rattle.ms_derive.proofs.hmac.padded.Goals as goal

pub loop-i-preserved : goal.loop-i-preserved
loop-i-preserved c = padded_more c.args.pad _ c.loop-i.i c.args.block.now c.loop-i.bytes (omega arith) c.loop-i.invariant (search rules)
