-- A key over a block, and another one.
use Rattle.std.proofs.Common.{arith}
use Rattle.ms_derive.proofs.Blocks.{long_key, short_key}
use Rattle.ms_derive.proofs.hmac.key_block.Goals as goal

pub returns-then-key-gt128 : goal.returns-then-key-gt128
returns-then-key-gt128 c = let e = long_key c.args.key.now (omega arith) in cc

pub returns : goal.returns
returns c = let e = short_key c.args.key.now (omega arith) in cc
