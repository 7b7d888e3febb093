-- The number of the bytes so far.
use Rattle.std.proofs.Common.{◌≡◌, ◌^◌, ◌<◌, take}
use Rattle.def_address.specs.Digits.{number_in}
use Rattle.ms_address.proofs.bech32.number_of.Given as goal

abbrev pub invariant-loop-byte : goal.invariant-loop-byte
invariant-loop-byte l = record {
  number : l.number ≡ number_in 256 (take l.byte-index l.bytes);
  below : l.number < 256 ^ l.byte-index;
}
