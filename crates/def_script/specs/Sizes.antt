-- CompactSize numbers, which stand before the items of a witness (Bitcoin Core: `WriteCompactSize`,
-- `ReadCompactSize`).
use Rattle.std.specs.Prelude.{ℕ, ◌+◌, ◌^◌, ◌==◌, nat_lt, [], ◌∷◌, length, if◌then◌else◌, Result, Ok, Err}
use Rattle.std.specs.Int.{Width, w16, w32, w64, byte_len, to_le_bytes, from_le_bytes}
use Rattle.def_script.specs.declared.SizeFault.{SizeFault}
use Rattle.def_script.specs.declared.SizeFault.TheVariants.{Truncated, NotShortest}
use Rattle.def_script.specs.Bytes.{Bytes}

-- the shortest spelling of a size below 2^64
unfoldable pub size_bytes : ℕ → Bytes
size_bytes size =
    if nat_lt size 0xfd then size ∷ []
    else if nat_lt size (2 ^ 16) then 0xfd ∷ to_le_bytes w16 size
    else if nat_lt size (2 ^ 32) then 0xfe ∷ to_le_bytes w32 size
    else 0xff ∷ to_le_bytes w64 size

-- a size that is read, and how many bytes it takes
abbrev pub SizeReading : Type 0
SizeReading = Result (ℕ × ℕ) SizeFault

-- the number of the given width after the first byte, for which a shorter spelling has no room from
-- `least` on
abbrev pub read_wide : Width → (least : ℕ) → Bytes → SizeReading
read_wide width least rest =
    if nat_lt (length rest) (byte_len width) then Err Truncated
    else if nat_lt (from_le_bytes width rest) least then Err NotShortest
    else Ok (from_le_bytes width rest, byte_len width + 1)

-- the size that bytes begin with
unfoldable pub read_size : Bytes → SizeReading
read_size [] = Err Truncated
read_size (byte ∷ rest) =
    if nat_lt byte 0xfd then Ok (byte, 1)
    else if byte == 0xfd then read_wide w16 0xfd rest
    else if byte == 0xfe then read_wide w32 (2 ^ 16) rest
    else read_wide w64 (2 ^ 32) rest
