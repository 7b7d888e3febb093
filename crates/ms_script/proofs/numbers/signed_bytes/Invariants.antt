use Rattle.std.proofs.Common.{◌-◌, ◌≡◌, ◌≤◌, length, take, ◌++◌}
use Rattle.def_script.specs.Numbers.{signed_bytes as the_signed_bytes}
use Rattle.ms_script.proofs.numbers.signed_bytes.Given as goal

abbrev pub invariant-loop-len : goal.invariant-loop-len
invariant-loop-len l = record {
  within : l.len ≤ 5;
  five : length l.bytes ≡ 5;
  same : take l.len l.bytes ++ the_signed_bytes (5 - l.len) l.negative l.left ≡ the_signed_bytes 5 l.negative l.magnitude;
}

abbrev pub decreases-loop-len : goal.decreases-loop-len
decreases-loop-len l = 5 - l.len
