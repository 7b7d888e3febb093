-- Bech32, and the addresses of witness version 0 (BIP 173).
use Rattle.std.specs.Prelude.{ℕ, ◌+◌, ◌-◌, ◌*◌, ◌/◌, ◌%◌, ◌^◌, ◌==◌, ◌&&◌, ◌||◌, nat_le, if◌then◌else◌, Bool, List, [], ◌∷◌, ◌++◌, length, map, take, drop, replicate, bit_xor, codes, Option, Some, None}
use Rattle.std.specs.List.{list_any}
use Rattle.std.specs.Option.{option_and_then}
use Rattle.std.specs.Str.{bytes_eq}
use Rattle.def_script.specs.Bytes.{Bytes}
use Rattle.def_address.specs.Digits.{number_in, fixed_digits, spelled, read_digits}
use Rattle.def_address.specs.Remainder.{remainder_of}

-- the characters of the values below 32
abbrev pub bech32_alphabet : Bytes
bech32_alphabet = codes "qpzry9x8gf2tvdw0s3jn54khce6mua7l"

abbrev pub bech32_generators : List ℕ
bech32_generators = 0x3b6a57b2 ∷ 0x26508e6d ∷ 0x1ea119fa ∷ 0x3d4233dd ∷ 0x2a1462b3 ∷ []

abbrev pub bech32_remainder : List ℕ → ℕ
bech32_remainder values = remainder_of 25 bech32_generators values

-- the human-readable part, as the checksum counts it
abbrev pub expanded : (human : Bytes) → List ℕ
expanded human = map (λ letter. letter / 32) human ++ 0 ∷ map (λ letter. letter % 32) human

-- the six values of the checksum
abbrev pub bech32_check : (human : Bytes) → (values : List ℕ) → List ℕ
bech32_check human values = fixed_digits 32 6 (bit_xor (bech32_remainder (expanded human ++ values ++ replicate 6 0)) 1)

-- values without their last six, where these are the checksum
abbrev pub without_check : (human : Bytes) → List ℕ → Option (List ℕ)
without_check human values =
    let front = take (length values - 6) values in
    if nat_le 6 (length values) && bytes_eq (drop (length values - 6) values) (bech32_check human front) then Some front else None

-- how many values of 5 bits some bytes fill, and the number of zero bits that are then behind them
abbrev pub value_count : (bytes : ℕ) → ℕ
value_count bytes = (8 * bytes + 4) / 5

abbrev pub spare : (values bytes : ℕ) → ℕ
spare values bytes = 2 ^ (5 * values - 8 * bytes)

-- the bits of some bytes in groups of 5, with zeros behind
abbrev pub in_fives : Bytes → List ℕ
in_fives bytes =
    let count = value_count (length bytes) in
    fixed_digits 32 count (number_in 256 bytes * spare count (length bytes))

-- the whole bytes of such groups: what is left is at most 4 bits, all zero
abbrev pub from_fives : List ℕ → Option Bytes
from_fives values =
    let count = 5 * length values / 8 in
    let rest = spare (length values) count in
    if nat_le rest 16 && (number_in 32 values % rest == 0) then Some (fixed_digits 256 count (number_in 32 values / rest)) else None

-- the address of a program of version 0: the human-readable part, `1`, the version, the program and the checksum
unfoldable pub program_address : (human program : Bytes) → Bytes
program_address human program =
    let values = 0 ∷ in_fives program in
    human ++ codes "1" ++ spelled bech32_alphabet (values ++ bech32_check human values)

-- a program of version 0 has 20 or 32 bytes
abbrev pub is_program : Bytes → Bool
is_program program = (length program == 20) || (length program == 32)

abbrev pub if_program : Bytes → Option Bytes
if_program program = if is_program program then Some program else None

-- the program of values that begin with version 0
abbrev pub program_of : List ℕ → Option Bytes
program_of [] = None
program_of (version ∷ values) = if version == 0 then option_and_then if_program (from_fives values) else None

-- a text in lower case: one of both cases is no address
abbrev pub is_upper : ℕ → Bool
is_upper letter = nat_le 65 letter && nat_le letter 90

abbrev pub is_lower : ℕ → Bool
is_lower letter = nat_le 97 letter && nat_le letter 122

abbrev pub in_lower_case : (text : Bytes) → Option Bytes
in_lower_case text =
    let lower = map (λ letter. if is_upper letter then letter + 32 else letter) text in
    if list_any is_upper text && list_any is_lower text then None else Some lower

-- the program of a text in lower case that begins with a human-readable part and `1`
abbrev pub program_behind : (human text : Bytes) → Option Bytes
program_behind human text =
    let front = human ++ codes "1" in
    let rest = option_and_then program_of (option_and_then (without_check human) (read_digits bech32_alphabet (drop (length front) text))) in
    if bytes_eq (take (length front) text) front then rest else None

-- the program of an address with this human-readable part
unfoldable pub read_program : (human text : Bytes) → Option Bytes
read_program human text = option_and_then (program_behind human) (in_lower_case text)
