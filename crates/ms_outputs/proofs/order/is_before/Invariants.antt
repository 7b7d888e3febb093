-- The bytes before are the same.
use Rattle.std.proofs.Common.{◌≡◌, take}
use Rattle.ms_outputs.proofs.order.is_before.Given as goal

abbrev pub invariant-loop-place : goal.invariant-loop-place
invariant-loop-place l = take l.place l.first ≡ take l.place l.other
