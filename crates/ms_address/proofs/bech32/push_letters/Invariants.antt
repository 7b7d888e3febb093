-- The characters of the values so far were added.
use Rattle.std.proofs.Common.{◌≡◌, ◌++◌, take}
use Rattle.def_address.specs.Digits.{spelled}
use Rattle.def_address.specs.Bech32.{bech32_alphabet}
use Rattle.ms_address.proofs.bech32.push_letters.Given as goal

abbrev pub invariant-loop-value : goal.invariant-loop-value
invariant-loop-value l = l.text.items ≡ l.fn.text.items ++ spelled bech32_alphabet (take l.value-index l.values)
