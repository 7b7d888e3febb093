-- What one word of a text spells (BIP 379): the name of a fragment, a number, a key or a hash value.
use Rattle.std.specs.Prelude.{ℕ, ◌==◌, ◌&&◌, ◌||◌, not, nat_le, Bool, List, [], ◌∷◌, length, slice_index, codes, Option, Some, None, if◌then◌else◌}
use Rattle.std.specs.List.{list_any}
use Rattle.std.specs.Option.{option_and_then}
use Rattle.std.specs.Result.{result_ok}
use Rattle.std.specs.Str.{all_ascii_digits, byte, bytes_eq}
use Rattle.std.specs.Str.Parse.{digits_value}
use Rattle.hex.specs.Hex.{decode_of}
use Rattle.def_script.specs.Bytes.{Bytes}
use Rattle.def_script.specs.Key.{is_key}
use Rattle.def_hash.specs.Hash.{digest_length}
use Rattle.def_hash.specs.declared.HashKind.{HashKind}
use Rattle.def_hash.specs.declared.HashKind.TheVariants.{Sha256, Hash256, Ripemd160, Hash160}
use Rattle.def_tree.specs.declared.Two.{Two}
use Rattle.def_tree.specs.declared.Two.TheVariants.{AndV, AndB, OrB, OrC, OrD, OrI}
use Rattle.def_tree.specs.Tree.{Key}

-- the name of a hash lock
abbrev pub hash_name : HashKind → Bytes
hash_name Sha256 = codes "sha256"
hash_name Hash256 = codes "hash256"
hash_name Ripemd160 = codes "ripemd160"
hash_name Hash160 = codes "hash160"

-- the name of a fragment with two children
abbrev pub two_name : Two → Bytes
two_name AndV = codes "and_v"
two_name AndB = codes "and_b"
two_name OrB = codes "or_b"
two_name OrC = codes "or_c"
two_name OrD = codes "or_d"
two_name OrI = codes "or_i"

-- the names of all fragments
abbrev pub FRAGMENT_NAMES : List Bytes
FRAGMENT_NAMES =
    codes "0" ∷ codes "1" ∷ codes "pk_k" ∷ codes "pk_h" ∷ codes "pk" ∷ codes "pkh" ∷ codes "older" ∷ codes "after"
    ∷ codes "sha256" ∷ codes "hash256" ∷ codes "ripemd160" ∷ codes "hash160" ∷ codes "andor" ∷ codes "and_v"
    ∷ codes "and_b" ∷ codes "and_n" ∷ codes "or_b" ∷ codes "or_c" ∷ codes "or_d" ∷ codes "or_i" ∷ codes "thresh"
    ∷ codes "multi" ∷ []

-- whether a word is the name of a fragment
abbrev pub is_fragment_name : Bytes → Bool
is_fragment_name w = list_any (bytes_eq w) FRAGMENT_NAMES

-- whether a word is a number: `0`, or one to ten decimal digits of which the first isn't `0`
abbrev pub is_number : Bytes → Bool
is_number w =
    bytes_eq w (codes "0")
    || (all_ascii_digits w && nat_le 1 (length w) && nat_le (length w) 10 && not (slice_index w 0 == byte "0"))

-- the number that a word spells
abbrev pub number_of : Bytes → Option ℕ
number_of w = if is_number w then Some (digits_value 10 w) else None

-- the bytes that a word spells by two hexadecimal digits each, in either case, where they pass a test
abbrev pub digits_of : (test : Bytes → Bool) → Bytes → Option Bytes
digits_of test w = option_and_then (λ bytes. if test bytes then Some bytes else None) (result_ok (decode_of w))

-- the key that a word spells
abbrev pub key_of : Bytes → Option Key
key_of = digits_of is_key

-- whether bytes are a hash value: as many as its function gives
abbrev pub is_digest : HashKind → Bytes → Bool
is_digest kind bytes = length bytes == digest_length kind

-- the hash value that a word spells
abbrev pub hash_of : HashKind → Bytes → Option Bytes
hash_of kind = digits_of (is_digest kind)
