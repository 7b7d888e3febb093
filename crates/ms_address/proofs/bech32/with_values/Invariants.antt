-- The remainder with the values so far.
use Rattle.std.proofs.Common.{◌≡◌, take, fold}
use Rattle.def_address.specs.Remainder.{remainder_with}
use Rattle.def_address.specs.Bech32.{bech32_generators}
use Rattle.ms_address.proofs.bech32.with_values.Given as goal

abbrev pub invariant-loop-value : goal.invariant-loop-value
invariant-loop-value l = l.remainder ≡ fold (remainder_with 25 bech32_generators) l.fn.first (take l.value-index l.values)
