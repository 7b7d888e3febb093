-- What was added and the groups of what is left are those of all bytes.
use Rattle.std.proofs.Common.{◌≡◌, ◌++◌, length}
use Rattle.def_script.specs.Bytes.{IsBytes}
use Rattle.def_address.specs.Bech32.{in_fives}
use Rattle.ms_address.proofs.bech32.push_fives.Given as goal

abbrev pub invariant-chunks : goal.invariant-chunks
invariant-chunks l = record {
  all : l.values.items ++ in_fives l.rest ≡ l.fn.values.items ++ in_fives l.bytes;
  bytes : IsBytes l.rest;
}

abbrev pub decreases-chunks : goal.decreases-chunks
decreases-chunks l = length l.rest
