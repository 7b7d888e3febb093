-- Base58 and Base58Check (Bitcoin Core, base58.cpp: `EncodeBase58`, `DecodeBase58`, `EncodeBase58Check`, `DecodeBase58Check`).
use Rattle.std.specs.Prelude.{ℕ, ◌-◌, ◌==◌, ◌&&◌, nat_le, if◌then◌else◌, List, ◌++◌, length, take, drop, replicate, codes, Option, Some, None}
use Rattle.std.specs.List.{prefix_len}
use Rattle.std.specs.Option.{option_map, option_and_then}
use Rattle.std.specs.Str.{bytes_eq}
use Rattle.def_hash.specs.Hash.{hash256}
use Rattle.def_script.specs.Bytes.{Bytes}
use Rattle.def_address.specs.Digits.{number_in, digits_of, spelled, read_digits}

-- the digits and letters without 0, O, I and l
abbrev pub base58_alphabet : Bytes
base58_alphabet = codes "123456789ABCDEFGHJKLMNPQRSTUVWXYZabcdefghijkmnopqrstuvwxyz"

-- the digits of a number in another base, behind as many zeros as it has in front
abbrev pub rebased : (from to : ℕ) → List ℕ → List ℕ
rebased from to digits = replicate (prefix_len (λ digit. digit == 0) digits) 0 ++ digits_of to (number_in from digits)

-- the text of some bytes, and the bytes of a text
abbrev pub base58 : Bytes → Bytes
base58 bytes = spelled base58_alphabet (rebased 256 58 bytes)

abbrev pub read_base58 : (text : Bytes) → Option Bytes
read_base58 text = option_map (rebased 58 256) (read_digits base58_alphabet text)

-- the first 4 bytes of the HASH256
abbrev pub check_of : Bytes → Bytes
check_of bytes = take 4 (hash256 bytes)

-- bytes without their last 4, where these are their check
abbrev pub unchecked : Bytes → Option Bytes
unchecked bytes =
    let front = take (length bytes - 4) bytes in
    if nat_le 4 (length bytes) && bytes_eq (drop (length bytes - 4) bytes) (check_of front) then Some front else None

-- the text of some bytes with their check behind, and the bytes of such a text
unfoldable pub base58_check : Bytes → Bytes
base58_check bytes = base58 (bytes ++ check_of bytes)

unfoldable pub read_base58_check : (text : Bytes) → Option Bytes
read_base58_check text = option_and_then unchecked (read_base58 text)
