-- The remainder with those of the letters so far.
use Rattle.std.proofs.Common.{◌≡◌, ◌%◌, map, take, fold}
use Rattle.def_address.specs.Remainder.{remainder_with}
use Rattle.def_address.specs.Bech32.{bech32_generators}
use Rattle.ms_address.proofs.bech32.with_lower_bits.Given as goal

abbrev pub invariant-loop-letter : goal.invariant-loop-letter
invariant-loop-letter l = l.remainder ≡ fold (remainder_with 25 bech32_generators) l.fn.first (map (λ letter. letter % 32) (take l.letter-index l.letters))
