use Rattle.std.proofs.Common.{◌≡◌, drop}
use Rattle.def_decode.specs.Decoded.{first_with}
use Rattle.ms_reading.specs.Scaffolding.Keys.{keys_of}
use Rattle.ms_reading.proofs.found.first_key.Given as goal

abbrev pub invariant-loop-hashed : goal.invariant-loop-hashed
invariant-loop-hashed l = first_with (keys_of (drop l.hashed-index l.keys)) l.hash ≡ first_with (keys_of l.keys) l.hash
