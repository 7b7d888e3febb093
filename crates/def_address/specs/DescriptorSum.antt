-- The checksum of a descriptor's text (BIP 380).
use Rattle.std.specs.Prelude.{ℕ, ◌+◌, ◌*◌, ◌/◌, ◌%◌, List, [], ◌∷◌, ◌++◌, replicate, bit_xor, codes, Option}
use Rattle.std.specs.Option.{option_map}
use Rattle.def_script.specs.Bytes.{Bytes}
use Rattle.def_address.specs.Digits.{fixed_digits, spelled, read_digits}
use Rattle.def_address.specs.Remainder.{remainder_of}
use Rattle.def_address.specs.Bech32.{bech32_alphabet}

-- the characters of a descriptor, in three groups of 32, of which the last has 31
abbrev pub descriptor_alphabet : Bytes
descriptor_alphabet = codes "0123456789()[],'/*abcdefgh@:$%{}IJKLMNOPQRSTUVWXYZ&+-.;<=>?!^_|~ijklmnopqrstuvwxyzABCDEFGH`#\"\\ "

-- the places of the characters in their groups, and behind three of them the number of their groups in base 3
abbrev pub symbols : List ℕ → List ℕ
symbols [] = []
symbols (a ∷ []) = a % 32 ∷ a / 32 ∷ []
symbols (a ∷ b ∷ []) = a % 32 ∷ b % 32 ∷ (a / 32 * 3 + b / 32) ∷ []
symbols (a ∷ b ∷ c ∷ rest) = a % 32 ∷ b % 32 ∷ c % 32 ∷ (a / 32 * 9 + b / 32 * 3 + c / 32) ∷ symbols rest

abbrev pub descriptor_generators : List ℕ
descriptor_generators = 0xf5dee51989 ∷ 0xa9fdca3312 ∷ 0x1bab10e32d ∷ 0x3706b1677a ∷ 0x644d626ffd ∷ []

abbrev pub descriptor_remainder : List ℕ → ℕ
descriptor_remainder values = remainder_of 35 descriptor_generators values

-- the eight characters of the checksum of some places
abbrev pub sum_of_places : List ℕ → Bytes
sum_of_places places = spelled bech32_alphabet (fixed_digits 32 8 (bit_xor (descriptor_remainder (symbols places ++ replicate 8 0)) 1))

-- the checksum of a text, where all its characters are of the alphabet
unfoldable pub descriptor_sum : (text : Bytes) → Option Bytes
descriptor_sum text = option_map sum_of_places (read_digits descriptor_alphabet text)
