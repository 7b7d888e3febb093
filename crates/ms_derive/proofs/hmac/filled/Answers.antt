-- The bytes, and the zeros that are left.
use Rattle.std.proofs.Common.{ℕ, List, ◌++◌, length, ap}
use Rattle.ms_derive.proofs.Blocks.{zeros_behind}
use Rattle.ms_derive.proofs.hmac.filled.Goals as goal

pub returns : goal.returns
returns c = rw c.copy_from_slice.ensures.after (ap (λ (z : List ℕ). c.args.bytes.now ++ z) (zeros_behind (length c.args.bytes.now) 128))
