-- Extended public keys and their bytes (BIP 32, "Serialization format").
use Rattle.std.specs.Prelude.{ℕ, ◌==◌, ◌&&◌, ◌||◌, not, if◌then◌else◌, Bool, [], ◌∷◌, ◌++◌, length, take, drop, replicate, slice_index, Option, Some, None}
use Rattle.std.specs.Int.{bytes_high_first}
use Rattle.std.specs.Option.{option_and_then}
use Rattle.std.specs.Str.{bytes_eq}
use Rattle.def_script.specs.Bytes.{Bytes}
use Rattle.def_script.specs.Key.{is_key}
use Rattle.def_address.specs.Digits.{number_in}
use Rattle.def_address.specs.Base58.{base58_check, read_base58_check}

-- a key with all that its text says
pub record Extended : Type 0 where
  pub version : ℕ
  pub depth : ℕ
  pub parent : Bytes
  pub number : ℕ
  pub chain_code : Bytes
  pub key : Bytes

-- `xpub` of the main network, and `tpub` of the others
abbrev pub is_version : ℕ → Bool
is_version version = (version == 0x0488b21e) || (version == 0x043587cf)

-- at depth 0 there is no parent and no number
abbrev pub is_rooted : (depth number : ℕ) (parent : Bytes) → Bool
is_rooted depth number parent = not (depth == 0) || ((number == 0) && bytes_eq parent (replicate 4 0))

-- the 78 bytes of a key: its version, depth, parent's fingerprint, number, chain code and point
abbrev pub extended_bytes : Extended → Bytes
extended_bytes key =
    bytes_high_first 4 key.version ++ (key.depth ∷ []) ++ key.parent ++ bytes_high_first 4 key.number ++ key.chain_code ++ key.key

-- so many bytes from a place on
abbrev pub part : (place count : ℕ) (bytes : Bytes) → Bytes
part place count bytes = take count (drop place bytes)

abbrev pub parts_of : Bytes → Extended
parts_of bytes = record {
  version = number_in 256 (part 0 4 bytes);
  depth = slice_index bytes 4;
  parent = part 5 4 bytes;
  number = number_in 256 (part 9 4 bytes);
  chain_code = part 13 32 bytes;
  key = part 45 33 bytes;
}

-- the key of such bytes: its point isn't looked at
unfoldable pub read_extended : Bytes → Option Extended
read_extended bytes =
    let key = parts_of bytes in
    if (length bytes == 78) && is_version key.version && is_rooted key.depth key.number key.parent && is_key key.key then Some key else None

-- the text of a key, and the key of a text
unfoldable pub extended_text : Extended → Bytes
extended_text key = base58_check (extended_bytes key)

unfoldable pub extended_of : (text : Bytes) → Option Extended
extended_of text = option_and_then read_extended (read_base58_check text)
