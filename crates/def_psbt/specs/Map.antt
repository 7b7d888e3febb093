-- The maps of a PSBT, and their bytes (BIP 174, "Specification").
use Rattle.std.specs.Prelude.{ℕ, ◌==◌, Bool, List, [], ◌∷◌, ◌++◌, drop, find, is_some, Option, Ok, Err}
use Rattle.std.specs.List.{flat_map, list_all}
use Rattle.std.specs.Option.{option_map}
use Rattle.def_script.specs.Bytes.{Bytes}
use Rattle.def_script.specs.Sizes.{SizeReading, read_size}
use Rattle.def_script.specs.Witness.{sized}
use Rattle.def_psbt.specs.Transaction.{Transaction}

pub record Pair : Type 0 where
  pub key : Bytes
  pub value : Bytes

-- the pairs in their order
abbrev pub Map : Type 0
Map = List Pair

-- a key begins with its type, which is a CompactSize, and its data follow
abbrev pub type_read : SizeReading → ℕ
type_read (Ok read) = read.0
type_read (Err fault) = 0

abbrev pub data_read : SizeReading → Bytes → Bytes
data_read (Ok read) key = drop read.1 key
data_read (Err fault) key = []

-- the type and the data of a key whose type is whole and in its shortest spelling
abbrev pub type_of : (key : Bytes) → ℕ
type_of key = type_read (read_size key)

abbrev pub data_of : (key : Bytes) → Bytes
data_of key = data_read (read_size key) key

-- the pair of a type whose keys have no data, and its value
abbrev pub pair_of_type : (type : ℕ) → Map → Option Pair
pair_of_type type map = find (λ (pair : Pair). type_of pair.key == type) map

abbrev pub value_of_type : (type : ℕ) → Map → Option Bytes
value_of_type type map = option_map (λ (pair : Pair). pair.value) (pair_of_type type map)

-- a pair of each of these types stands in a map
abbrev pub has_types : (types : List ℕ) → Map → Bool
has_types types map = list_all (λ type. is_some (pair_of_type type map)) types

-- what a PSBT holds: the global map, the transaction that its maps give, a map for each of its inputs,
-- and one for each of its outputs
pub record Psbt : Type 0 where
  pub global : Map
  pub transaction : Transaction
  pub inputs : List Map
  pub outputs : List Map

abbrev pub pair_text : Pair → Bytes
pair_text pair = sized pair.key ++ sized pair.value

-- the pairs, and the key of size 0 that ends the map
abbrev pub map_text : Map → Bytes
map_text map = flat_map pair_text map ++ 0x00 ∷ []

-- `psbt` and 0xff
abbrev pub magic : Bytes
magic = 0x70 ∷ 0x73 ∷ 0x62 ∷ 0x74 ∷ 0xff ∷ []

-- the bytes of a PSBT
abbrev pub psbt_text : (global : Map) → (inputs outputs : List Map) → Bytes
psbt_text global inputs outputs = magic ++ (map_text global ++ (flat_map map_text inputs ++ flat_map map_text outputs))
