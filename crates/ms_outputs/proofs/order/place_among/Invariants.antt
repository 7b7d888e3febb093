-- The keys before stand before it.
use Rattle.std.proofs.Common.{◌≡◌, ◌++◌, take, drop}
use Rattle.def_descriptor.specs.Gives.{with_sorted}
use Rattle.ms_outputs.proofs.order.place_among.Given as goal

abbrev pub invariant-loop-place : goal.invariant-loop-place
invariant-loop-place l = with_sorted l.key l.keys ≡ take l.place l.keys ++ with_sorted l.key (drop l.place l.keys)
