-- Script numbers (Bitcoin Core, CScriptNum): little-endian, with the sign in the top bit of the last byte.
use Rattle.std.specs.Prelude.{ℕ, zero, suc, ◌+◌, ◌/◌, ◌%◌, nat_lt, ℤ, pos, negsuc, Bool, true, false, [], ◌∷◌, if◌then◌else◌}
use Rattle.def_script.specs.Bytes.{Bytes}

-- the sign bit of a last byte
abbrev pub sign_bit : Bool → ℕ
sign_bit negative = if negative then 128 else 0

-- the shortest spelling of a magnitude other than zero and its sign, in at most so many bytes: its
-- last byte is the first one that leaves room for the sign
abbrev pub signed_bytes : (most : ℕ) → (negative : Bool) → (magnitude : ℕ) → Bytes
signed_bytes zero negative n = []
signed_bytes (suc most) negative n =
    if nat_lt n 128 then (n + sign_bit negative) ∷ []
    else (n % 256) ∷ signed_bytes most negative (n / 256)

-- the shortest spelling of a natural number below 2^39: zero is the empty string
abbrev pub natural_bytes : ℕ → Bytes
natural_bytes zero = []
natural_bytes (suc n) = signed_bytes 5 false (suc n)

-- the shortest spelling of an integer between -2^39 and 2^39, as a five-byte operand holds it
abbrev pub number_bytes : ℤ → Bytes
number_bytes (pos n) = natural_bytes n
number_bytes (negsuc n) = signed_bytes 5 true (suc n)
