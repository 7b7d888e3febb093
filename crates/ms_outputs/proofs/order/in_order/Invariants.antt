-- The keys behind those that are left stand in order.
use Rattle.std.proofs.Common.{length}
use Rattle.ms_outputs.proofs.Ordering.{InOrder}
use Rattle.ms_outputs.proofs.order.in_order.Given as goal

abbrev pub invariant-loop-key : goal.invariant-loop-key
invariant-loop-key l = InOrder l.fn.keys l.left l.all.items

abbrev pub decreases-loop-key : goal.decreases-loop-key
decreases-loop-key l = length l.left
