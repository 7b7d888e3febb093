use Rattle.std.proofs.Common.{◌≡◌, ◌++◌, map, take, drop}
use Rattle.ms_psbt.specs.Scaffolding.Repeats.{hashed}
use Rattle.ms_psbt.proofs.repeats.mark_by_hash.Given as goal

abbrev pub invariant-loop-place : goal.invariant-loop-place
invariant-loop-place l = l.places ≡ map (hashed l.keys l.bytes) (take l.place-index l.fn.places) ++ drop l.place-index l.fn.places
