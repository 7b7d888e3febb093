-- The bytes so far, and the others as they were.
use Rattle.std.proofs.Common.{◌≡◌, ◌++◌, take, drop}
use Rattle.def_derive.specs.Hmac.{padded}
use Rattle.ms_derive.proofs.hmac.padded.Given as goal

abbrev pub invariant-loop-i : goal.invariant-loop-i
invariant-loop-i l = l.bytes ≡ padded l.pad (take l.i l.block) ++ drop l.i l.block
