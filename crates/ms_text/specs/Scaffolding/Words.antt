-- What words of digits say.
use Rattle.std.specs.Prelude.{◌≡◌, ◌≢◌, ℕ, List, Option, Some, None, Ok, length, if◌then◌else◌}
use Rattle.std.specs.Str.{all_ascii_digits}
use Rattle.std.specs.Str.Parse.{digits_value_after}
use Rattle.hex.specs.Hex.{decode_of, IsBytes}
use Rattle.def_script.specs.Bytes.{Bytes}

-- the number that decimal digits write when they follow those of n
abbrev pub digits_after : (n : ℕ) → Bytes → Option ℕ
digits_after n w = if all_ascii_digits w then Some (digits_value_after 10 n w) else None

-- what a word of hexadecimal digits is decoded to, where that is so many bytes
abbrev pub DecodesTo : ℕ → Bytes → Option (List ℕ) → Type 0
DecodesTo n w (Some bytes) = (decode_of w ≡ Ok bytes) × (length bytes ≡ n) × IsBytes bytes
DecodesTo n w None = (bytes : List ℕ) → decode_of w ≡ Ok bytes → length bytes ≢ n
