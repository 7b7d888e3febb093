-- The source of a PSBT: its bytes, or their base64 (RFC 4648, section 4).
use Rattle.std.specs.Prelude.{ℕ, ◌==◌, ◌||◌, not, nat_lt, Bool, filter, length, take, if◌then◌else◌, Result, Ok, Err}
use Rattle.std.specs.Str.{bytes_eq}
use Rattle.base64.specs.declared.decode.DecodeError.{DecodeError}
use Rattle.base64.specs.Engines.{standard}
use Rattle.base64.specs.GeneralPurpose.{decode_of}
use Rattle.def_script.specs.Bytes.{Bytes}
use Rattle.def_psbt.specs.declared.Refusal.{Refusal}
use Rattle.def_psbt.specs.declared.Refusal.TheVariants.{TooLong, NotBase64, Magic}
use Rattle.def_psbt.specs.Map.{Psbt, magic}
use Rattle.def_psbt.specs.Reading.{◌>>=◌, read_psbt}

-- the most bytes of a source: 16 MiB
abbrev pub MAX_SOURCE_SIZE : ℕ
MAX_SOURCE_SIZE = 16777216

abbrev pub has_magic : Bytes → Bool
has_magic bytes = bytes_eq (take 5 bytes) magic

-- a space, a tab, CR or LF
abbrev pub is_blank : ℕ → Bool
is_blank byte = (byte == 0x20) || (byte == 0x09) || (byte == 0x0d) || (byte == 0x0a)

abbrev pub without_blanks : Bytes → Bytes
without_blanks = filter (λ byte. not (is_blank byte))

abbrev pub decoded : Result Bytes DecodeError → Result Bytes Refusal
decoded (Ok bytes) = if has_magic bytes then Ok bytes else Err Magic
decoded (Err fault) = Err NotBase64

-- the bytes of the PSBT: the source itself where it begins with the magic, else what its base64 gives
unfoldable pub psbt_bytes : (source : Bytes) → Result Bytes Refusal
psbt_bytes source =
    if nat_lt MAX_SOURCE_SIZE (length source) then Err TooLong
    else if has_magic source then Ok source
    else decoded (decode_of standard (without_blanks source))

-- the PSBT that a source gives, or why it is refused
unfoldable pub psbt_of : (source : Bytes) → Result Psbt Refusal
psbt_of source = do
  psbt ← psbt_bytes source
  read_psbt psbt
