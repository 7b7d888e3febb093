-- The fields of an input's map (BIP 174, "Per-Input Types").
use Rattle.std.specs.Prelude.{ℕ, ◌-◌, ◌==◌, ◌&&◌, ◌||◌, nat_le, Bool, List, length, map, filter, find, slice_index, Option, Some, None}
use Rattle.std.specs.Option.{option_map}
use Rattle.std.specs.Int.{w32, from_le_bytes}
use Rattle.def_script.specs.Bytes.{Bytes}
use Rattle.def_script.specs.Key.{is_key}
use Rattle.def_machine.specs.Stacks.{Pairs}
use Rattle.def_tree.specs.Tree.{Key}
use Rattle.def_psbt.specs.Types.{IN_PARTIAL_SIG, IN_SIGHASH_TYPE, IN_BIP32_DERIVATION, IN_RIPEMD160, IN_HASH256}
use Rattle.def_psbt.specs.Map.{Pair, Map, type_of, data_of}

-- ---- pairs of a type

abbrev pub has_type : (type : ℕ) → Pair → Bool
has_type type pair = type_of pair.key == type

-- a type between two, which count
abbrev pub is_between : (first last : ℕ) → (type : ℕ) → Bool
is_between first last type = nat_le first type && nat_le type last

-- the value of the first pair of a type
abbrev pub field : (type : ℕ) → (fields : Map) → Option Bytes
field type fields = option_map (λ pair. pair.value) (find (has_type type) fields)

-- ---- keys, signatures and preimages, each in the map's order

-- a compressed key with its signature
abbrev pub is_signed : Pair → Bool
is_signed pair = has_type IN_PARTIAL_SIG pair && is_key (data_of pair.key)

abbrev pub signatures_in : (fields : Map) → Pairs
signatures_in fields = map (λ pair. (data_of pair.key, pair.value)) (filter is_signed fields)

-- a compressed key, with its signature or with the path to it
abbrev pub has_key : Pair → Bool
has_key pair = (has_type IN_PARTIAL_SIG pair || has_type IN_BIP32_DERIVATION pair) && is_key (data_of pair.key)

abbrev pub keys_in : (fields : Map) → List Key
keys_in fields = map (λ pair. data_of pair.key) (filter has_key fields)

-- a preimage of 32 bytes: no miniscript asks for another one
abbrev pub is_preimage_pair : Pair → Bool
is_preimage_pair pair = is_between IN_RIPEMD160 IN_HASH256 (type_of pair.key) && (length pair.value == 32)

abbrev pub preimages_in : (fields : Map) → List Bytes
preimages_in fields = map (λ pair. pair.value) (filter is_preimage_pair fields)

-- ---- hash types

-- the hash type of a signature is its last byte
abbrev pub last_byte : (sig : Bytes) → ℕ
last_byte sig = slice_index sig (length sig - 1)

-- ALL, where the map asks for none
abbrev pub asked : Option Bytes → ℕ
asked None = 1
asked (Some value) = from_le_bytes w32 value

-- the number of the hash type that is asked
abbrev pub asked_type : (fields : Map) → ℕ
asked_type fields = asked (field IN_SIGHASH_TYPE fields)
