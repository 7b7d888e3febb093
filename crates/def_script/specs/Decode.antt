-- How Script numbers and truth values are read (Bitcoin Core: `CScriptNum`, `CastToBool`).
use Rattle.std.specs.Prelude.{ℕ, zero, suc, ◌+◌, ◌*◌, ◌%◌, ◌==◌, ◌||◌, not, nat_lt, nat_le, ℤ, pos, negsuc, neg_ℤ, Bool, true, false, [], ◌∷◌, length, if◌then◌else◌, Result, Ok, Err}
use Rattle.def_script.specs.declared.NumFault.{NumFault}
use Rattle.def_script.specs.declared.NumFault.TheVariants.{TooLong, NotMinimal}
use Rattle.def_script.specs.Bytes.{Bytes}

-- the magnitude: little-endian, without the top bit of the last byte
abbrev pub magnitude : Bytes → ℕ
magnitude [] = 0
magnitude (b ∷ []) = b % 128
magnitude (b ∷ c ∷ bytes) = b + 256 * magnitude (c ∷ bytes)

-- whether the top bit of the last byte, which is the sign, is set
abbrev pub is_negative : Bytes → Bool
is_negative [] = false
is_negative (b ∷ []) = nat_le 128 b
is_negative (b ∷ c ∷ bytes) = is_negative (c ∷ bytes)

-- the number that bytes spell
abbrev pub number : Bytes → ℤ
number bytes = if is_negative bytes then neg_ℤ (pos (magnitude bytes)) else pos (magnitude bytes)

-- a spelling isn't minimal where its last byte without the top bit is zero, and that byte is the
-- only one or the byte just before it has its top bit clear
abbrev pub is_minimal : Bytes → Bool
is_minimal [] = true
is_minimal (b ∷ []) = not (b % 128 == 0)
is_minimal (b ∷ c ∷ []) = not (c % 128 == 0) || nat_le 128 b
is_minimal (b ∷ c ∷ d ∷ bytes) = is_minimal (c ∷ d ∷ bytes)

-- the number that at most so many bytes spell in their minimal form
abbrev pub num_decode : (most : ℕ) → Bytes → Result ℤ NumFault
num_decode most bytes =
    if nat_lt most (length bytes) then Err TooLong
    else if is_minimal bytes then Ok (number bytes)
    else Err NotMinimal

-- a string is false where all its bytes are zero, or all but a last byte 0x80, which is a negative
-- zero
abbrev pub truth : Bytes → Bool
truth [] = false
truth (b ∷ []) = not (b == 0 || b == 0x80)
truth (b ∷ c ∷ bytes) = not (b == 0) || truth (c ∷ bytes)

-- the number isn't zero
abbrev pub is_nonzero : ℤ → Bool
is_nonzero (pos zero) = false
is_nonzero (pos (suc n)) = true
is_nonzero (negsuc n) = true
