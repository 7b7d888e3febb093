-- What is promised of PSBTs that were combined.
use Rattle.std.specs.Prelude.{◌≡◌, ℕ, ◌<◌, Bool, List, [], ◌∷◌, ◌++◌, length, find, map, slice_index_or, All, Option, None, Ok}
use Rattle.std.specs.List.{IsDistinct}
use Rattle.std.specs.Str.{bytes_eq}
use Rattle.base64.specs.Engines.{standard}
use Rattle.base64.specs.GeneralPurpose.{encode_of}
use Rattle.def_script.specs.Bytes.{Bytes, IsBytes}
use Rattle.def_psbt.specs.Map.{Pair, Map, Psbt, psbt_text}
use Rattle.def_psbt.specs.Fields.{version_of}
use Rattle.def_psbt.specs.Reading.{or_else, read_psbt}
use Rattle.def_combine.specs.Combine.{Parts, lines, lines_from, parts_of, combined, other_fault}
use Rattle.ms_given_laws.specs.Given.{IsWhole}

-- of the parts that each source of bytes gives, and of what they are combined to
abbrev pub OfEachCombined : (Parts → Psbt → Type 0) → Type 0
OfEachCombined Holds = (source : Bytes) (parts : Parts) (whole : Psbt) → IsBytes source → parts_of source ≡ Ok parts → combined parts ≡ Ok whole → Holds parts whole

abbrev pub all_parts : Parts → List Psbt
all_parts parts = parts.first ∷ parts.others

-- it has nothing wrong, and its bytes are read as it
abbrev pub IsReadAgain : Type 0
IsReadAgain = OfEachCombined (λ parts whole. IsWhole whole × (read_psbt (psbt_text whole.global whole.inputs whole.outputs) ≡ Ok whole))

-- the version and the transaction are those of each part, and so is the number of maps
pub record IsOfSame (whole part : Psbt) : Type 0 where
  pub version : version_of part.global ≡ version_of whole.global
  pub transaction : part.transaction ≡ whole.transaction
  pub inputs : length part.inputs ≡ length whole.inputs
  pub outputs : length part.outputs ≡ length whole.outputs

abbrev pub HasSameTransaction : Type 0
HasSameTransaction = OfEachCombined (λ parts whole. All (IsOfSame whole) (all_parts parts))

-- ---- keys

-- the pair of a key
abbrev pub pair_of_key : (key : Bytes) → Map → Option Pair
pair_of_key key map = find (λ (pair : Pair). bytes_eq key pair.key) map

-- the pair of a key in the first of some maps in which it stands
abbrev pub first_of_key : (key : Bytes) → List Map → Option Pair
first_of_key key [] = None
first_of_key key (map ∷ maps) = or_else (pair_of_key key map) (first_of_key key maps)

-- the key of one pair is that of another
abbrev pub same_key : (first second : Pair) → Bool
same_key first second = bytes_eq second.key first.key

-- each key that stands in some map stands once in a map, with the pair of the first that has it, and no other stands there
pub record IsJoined (map : Map) (maps : List Map) : Type 0 where
  pub once : IsDistinct same_key map
  pub pair : (key : Bytes) → pair_of_key key map ≡ first_of_key key maps

-- the global map, and the map of each input and of each output
pub record AreJoined (parts : Parts) (whole : Psbt) : Type 0 where
  pub global : IsJoined whole.global (map (λ (part : Psbt). part.global) (all_parts parts))
  pub inputs : (i : ℕ) → i < length whole.inputs → IsJoined (slice_index_or whole.inputs i []) (map (λ (part : Psbt). slice_index_or part.inputs i []) (all_parts parts))
  pub outputs : (i : ℕ) → i < length whole.outputs → IsJoined (slice_index_or whole.outputs i []) (map (λ (part : Psbt). slice_index_or part.outputs i []) (all_parts parts))

abbrev pub HasSameKeys : Type 0
HasSameKeys = OfEachCombined AreJoined

-- ---- combined again

-- a part alone comes out in the bytes of which its line has the base64
abbrev pub OneIsItself : Type 0
OneIsItself =
    (source bytes : Bytes) (number : ℕ) (parts : Parts) (whole : Psbt) → IsBytes source → IsBytes bytes
    → lines_from 1 (lines source) ≡ record { number = number; text = encode_of standard bytes } ∷ [] → parts_of source ≡ Ok parts → combined parts ≡ Ok whole
    → (parts ≡ record { first = whole; others = [] }) × (psbt_text whole.global whole.inputs whole.outputs ≡ bytes)

-- with any of the parts behind it, it stays as it is
abbrev pub HoldsEachPart : Type 0
HoldsEachPart =
    OfEachCombined (λ parts whole. All (λ part. (other_fault whole part ≡ None) × (combined (record { first = whole; others = part ∷ [] }) ≡ Ok whole)) (all_parts parts))

-- where some of the first parts are combined first, the others follow with the same outcome
abbrev pub GoesOn : Type 0
GoesOn =
    (first whole : Psbt) (some others : List Psbt) → combined (record { first = first; others = some }) ≡ Ok whole
    → combined (record { first = whole; others = others }) ≡ combined (record { first = first; others = some ++ others })
