-- The first byte that differs.
use Rattle.ms_outputs.proofs.Ordering.{differ}
use Rattle.ms_outputs.proofs.order.is_before.Goals as goal

pub returns-then-byte-other : goal.returns-then-byte-other
returns-then-byte-other c =
    differ c.args.first.now c.args.other.now c.loop-place.place c.loop-place-test.true c.requires.long c.requires.bytes c.requires.others c.loop-place.invariant
    c.if-byte-other.true
