-- The remainder of a descriptor's text behind what was read.
use Rattle.std.specs.Prelude.{ℕ, fold, List, Option}
use Rattle.std.specs.Option.{option_map}
use Rattle.def_script.specs.Bytes.{Bytes}
use Rattle.def_address.specs.Digits.{read_digits}
use Rattle.def_address.specs.Remainder.{remainder_with}
use Rattle.def_address.specs.DescriptorSum.{descriptor_alphabet, descriptor_generators, symbols}

-- a remainder with some values more
abbrev pub with_values : (remainder : ℕ) → List ℕ → ℕ
with_values remainder values = fold (remainder_with 35 descriptor_generators) remainder values

-- and with the symbols of a text
unfoldable pub after : (remainder : ℕ) → (text : Bytes) → Option ℕ
after remainder text = option_map (λ places. with_values remainder (symbols places)) (read_digits descriptor_alphabet text)
