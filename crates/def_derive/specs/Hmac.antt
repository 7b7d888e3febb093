-- HMAC-SHA512 (RFC 2104, over the SHA-512 of FIPS 180-4).
use Rattle.std.specs.Prelude.{ℕ, ◌-◌, nat_le, if◌then◌else◌, ◌++◌, length, map, replicate, bit_xor}
use Rattle.sha2.specs.Sha512.{sha512}
use Rattle.def_script.specs.Bytes.{Bytes}

-- a key as a block of 128 bytes, with zeros behind: of a longer key its digest
abbrev pub key_block : (key : Bytes) → Bytes
key_block key =
    let digest = sha512 key in
    let short = if nat_le (length key) 128 then key else digest in
    short ++ replicate (128 - length short) 0

-- each byte of a block XOR the same byte
abbrev pub padded : (pad : ℕ) (block : Bytes) → Bytes
padded pad block = map (λ byte. bit_xor byte pad) block

unfoldable pub hmac_sha512 : (key message : Bytes) → Bytes
hmac_sha512 key message = sha512 (padded 0x5c (key_block key) ++ sha512 (padded 0x36 (key_block key) ++ message))
