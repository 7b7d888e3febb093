-- How the bytes of a PSBT are read, and the first place at which they are refused (BIP 174 and BIP 370, "Specification").
use Rattle.std.specs.Prelude.{ℕ, zero, suc, ◌+◌, ◌-◌, ◌==◌, ◌&&◌, ◌||◌, nat_lt, nat_le, Bool, false, List, [], ◌∷◌, ◌++◌, length, take, drop, if◌then◌else◌, Option, Some, None, Result, Ok, Err}
use Rattle.std.specs.List.{list_any}
use Rattle.std.specs.Option.{option_map}
use Rattle.std.specs.Str.{bytes_eq}
use Rattle.def_script.specs.declared.SizeFault.{SizeFault}
use Rattle.def_script.specs.declared.SizeFault.TheVariants as size
use Rattle.def_script.specs.Bytes.{Bytes}
use Rattle.def_script.specs.Sizes.{SizeReading, read_size}
use Rattle.def_psbt.specs.declared.PsbtFault.{PsbtFault}
use Rattle.def_psbt.specs.declared.PsbtFault.TheVariants.{Truncated, Size, Version, Excluded, NoTransaction, Trailing, RepeatedOutpoint, LockTime}
use Rattle.def_psbt.specs.declared.PsbtVersion.{PsbtVersion}
use Rattle.def_psbt.specs.declared.PsbtVersion.TheVariants as version
use Rattle.def_psbt.specs.declared.Refusal.{Refusal}
use Rattle.def_psbt.specs.declared.Refusal.TheVariants.{At}
use Rattle.def_psbt.specs.Transaction.{Transaction}
use Rattle.def_psbt.specs.Map.{Pair, Map, Psbt, type_of, pair_text, map_text, pair_of_type, has_types}
use Rattle.def_psbt.specs.Types.{GLOBAL_UNSIGNED_TX, GLOBAL_TX_VERSION, GLOBAL_INPUT_COUNT, GLOBAL_OUTPUT_COUNT, GLOBAL_TX_MODIFIABLE, GLOBAL_VERSION, IN_PREVIOUS_TXID, IN_OUTPUT_INDEX, OUT_AMOUNT, OUT_SCRIPT}
use Rattle.def_psbt.specs.Fields.{has_field, size_in, version_of, has_time_alone, has_height_alone, outpoint_in, transaction_of_fields}
use Rattle.def_psbt.specs.TransactionReading.{transaction_of}
use Rattle.def_psbt.specs.Listed.{Form, global_form, input_form, output_form, pair_fault}

-- what is read, where nothing was refused before
infixl 10 ◌>>=◌
abbrev pub ◌>>=◌ : {A B : Type 0} → Result A Refusal → (A → Result B Refusal) → Result B Refusal
(Ok x) >>= f = f x
(Err refusal) >>= f = Err refusal

-- what begins at a place of a PSBT, and the place behind it
abbrev pub Read : Type 0 → Type 0
Read A = Result (A × ℕ) Refusal

abbrev pub fault_of_size : SizeFault → PsbtFault
fault_of_size size.Truncated = Truncated
fault_of_size size.NotShortest = Size

abbrev pub placed : (at : ℕ) → SizeReading → Read ℕ
placed at (Ok read) = Ok (read.0, at + read.1)
placed at (Err fault) = Err (At (fault_of_size fault) at)

-- the size at a place
unfoldable pub size_at : (psbt : Bytes) → (at : ℕ) → Read ℕ
size_at psbt at = placed at (read_size (drop at psbt))

-- so many bytes at a place
unfoldable pub bytes_at : (psbt : Bytes) → (count at : ℕ) → Read Bytes
bytes_at psbt count at =
    if nat_lt (length psbt) (at + count) then Err (At Truncated at)
    else Ok (take count (drop at psbt), at + count)

-- a key, or a value, behind its size
unfoldable pub string_at : (psbt : Bytes) → (at : ℕ) → Read Bytes
string_at psbt at = do
  size ← size_at psbt at
  bytes_at psbt size.0 size.1

unfoldable pub pair_at : (psbt : Bytes) → (at : ℕ) → Read Pair
pair_at psbt at = do
  key ← string_at psbt at
  value ← string_at psbt key.1
  Ok (record { key = key.0; value = value.0 }, value.1)

-- a pair of a map, behind others of it, with nothing wrong
abbrev pub tested : Option PsbtFault → (at : ℕ) → Pair × ℕ → Read Pair
tested (Some fault) at read = Err (At fault at)
tested None at read = Ok read

unfoldable pub sound_pair_at : (forms : ℕ → Form) → (psbt : Bytes) → (before : Map) → (at : ℕ) → Read Pair
sound_pair_at forms psbt before at = do
  read ← pair_at psbt at
  tested (pair_fault forms before read.0) at read

-- the pairs of a map from a place on, behind others of it, to the key of size 0 that ends it; no more
-- of them have room than there are bytes
unfoldable pub pairs_at : (forms : ℕ → Form) → (psbt : Bytes) → (room : ℕ) → (before : Map) → (at : ℕ) → Read Map
pairs_at forms psbt zero before at = Err (At Truncated at)
pairs_at forms psbt (suc room) before at = do
  size ← size_at psbt at
  if size.0 == 0 then Ok ([], size.1)
      else do
        pair ← sound_pair_at forms psbt before at
        pairs ← pairs_at forms psbt room (before ++ pair.0 ∷ []) pair.1
        Ok (pair.0 ∷ pairs.0, pairs.1)

-- the map that begins at a place
abbrev pub map_at : (forms : ℕ → Form) → (psbt : Bytes) → (at : ℕ) → Read Map
map_at forms psbt at = pairs_at forms psbt (suc (length psbt)) [] at

-- ---- maps of inputs and of outputs

-- what maps have to be: the form of each type, and the types that have to stand in each map
pub record Rules : Type 0 where
  pub forms : (type : ℕ) → Form
  pub needed : List ℕ

-- the outpoint of an input, and the amount and the script of an output, in version 2
abbrev pub needed_input : PsbtVersion → List ℕ
needed_input version.Zero = []
needed_input version.Two = IN_PREVIOUS_TXID ∷ IN_OUTPUT_INDEX ∷ []

abbrev pub needed_output : PsbtVersion → List ℕ
needed_output version.Zero = []
needed_output version.Two = OUT_AMOUNT ∷ OUT_SCRIPT ∷ []

abbrev pub input_rules : PsbtVersion → Rules
input_rules version = record { forms = input_form version; needed = needed_input version }

abbrev pub output_rules : PsbtVersion → Rules
output_rules version = record { forms = output_form version; needed = needed_output version }

-- a map in which the types stand that have to, or the byte that ends it
abbrev pub complete : (needed : List ℕ) → Map × ℕ → Read Map
complete needed read = if has_types needed read.0 then Ok read else Err (At NoTransaction (read.1 - 1))

abbrev pub whole_map_at : Rules → (psbt : Bytes) → (at : ℕ) → Read Map
whole_map_at rules psbt at = do
  read ← map_at rules.forms psbt at
  complete rules.needed read

-- so many maps, one after the other
unfoldable pub maps_at : Rules → (psbt : Bytes) → (count : ℕ) → (at : ℕ) → Read (List Map)
maps_at rules psbt zero at = Ok ([], at)
maps_at rules psbt (suc count) at = do
  map ← whole_map_at rules psbt at
  maps ← maps_at rules psbt count map.1
  Ok (map.0 ∷ maps.0, maps.1)

-- ---- the global map

-- a refusal that comes before what follows
abbrev pub unless : {A : Type 0} → Option Refusal → Result A Refusal → Result A Refusal
unless None next = next
unless (Some refusal) next = Err refusal

abbrev pub at_place : PsbtFault → Option ℕ → Option Refusal
at_place fault place = option_map (At fault) place

-- the place of the first pair of a map whose type is between two, which count, where the map begins at a place
abbrev pub place_of : (first last : ℕ) → (at : ℕ) → Map → Option ℕ
place_of first last at [] = None
place_of first last at (pair ∷ map) =
    if nat_le first (type_of pair.key) && nat_le (type_of pair.key) last then Some at
    else place_of first last (at + length (pair_text pair)) map

-- what stands in the global map of a version and must not: in version 0 a type that stands in version 2 alone, in version 2 the
-- transaction. The map begins behind the magic
abbrev pub misplaced : PsbtVersion → (global : Map) → Option Refusal
misplaced version.Zero global = at_place Excluded (place_of GLOBAL_TX_VERSION GLOBAL_TX_MODIFIABLE 5 global)
misplaced version.Two global =
    at_place Version (if has_field GLOBAL_UNSIGNED_TX global then place_of GLOBAL_VERSION GLOBAL_VERSION 5 global else None)

-- what the global map says of the transaction: in version 0 all of it, in version 2 how many inputs and outputs it has
pub data Outline : Type 0 where
  given : (transaction : Transaction) → Outline
  counted : (inputs outputs : ℕ) → Outline

abbrev pub transaction_in_pair : Option Pair → Option Transaction
transaction_in_pair (Some pair) = transaction_of pair.value
transaction_in_pair None = None

abbrev pub transaction_in : Map → Option Transaction
transaction_in global = transaction_in_pair (pair_of_type GLOBAL_UNSIGNED_TX global)

abbrev pub outline_in : PsbtVersion → (global : Map) → Option Outline
outline_in version.Zero global = option_map given (transaction_in global)
outline_in version.Two global =
    if has_types (GLOBAL_TX_VERSION ∷ GLOBAL_INPUT_COUNT ∷ GLOBAL_OUTPUT_COUNT ∷ []) global
    then Some (counted (size_in GLOBAL_INPUT_COUNT global) (size_in GLOBAL_OUTPUT_COUNT global)) else None

-- what a global map that ends before a place says
abbrev pub outline_or : Option Outline → (after : ℕ) → Result Outline Refusal
outline_or (Some outline) after = Ok outline
outline_or None after = Err (At NoTransaction (after - 1))

abbrev pub outline_at : Map × ℕ → Result Outline Refusal
outline_at read = unless (misplaced (version_of read.0) read.0) (outline_or (outline_in (version_of read.0) read.0) read.1)

abbrev pub input_count : Outline → ℕ
input_count (given transaction) = length transaction.inputs
input_count (counted inputs outputs) = inputs

abbrev pub output_count : Outline → ℕ
output_count (given transaction) = length transaction.outputs
output_count (counted inputs outputs) = outputs

-- the transaction that all maps give
abbrev pub transaction_by : Outline → (global : Map) → (inputs outputs : List Map) → Transaction
transaction_by (given transaction) global inputs outputs = transaction
transaction_by (counted input_number output_number) global inputs outputs = transaction_of_fields global inputs outputs

-- ---- the whole

-- nothing follows the last map
abbrev pub ended : (psbt : Bytes) → (at : ℕ) → Psbt → Result Psbt Refusal
ended psbt at read = if nat_lt at (length psbt) then Err (At Trailing at) else Ok read

-- the first of the maps of inputs from a place on whose outpoint is one of some, or that of an earlier one
abbrev pub repeated_at : (before : List Bytes) → (at : ℕ) → (inputs : List Map) → Option ℕ
repeated_at before at [] = None
repeated_at before at (fields ∷ inputs) =
    if list_any (bytes_eq (outpoint_in fields)) before then Some at
    else repeated_at (before ++ outpoint_in fields ∷ []) (at + length (map_text fields)) inputs

-- the first of the maps of inputs from a place on up to which one input has a time alone and one a height alone, which no
-- lock time serves; whether there was such a time, and such a height, before them
abbrev pub unserved_at : (time height : Bool) → (at : ℕ) → (inputs : List Map) → Option ℕ
unserved_at time height at [] = None
unserved_at time height at (fields ∷ inputs) =
    if (time || has_time_alone fields) && (height || has_height_alone fields) then Some at
    else unserved_at (time || has_time_alone fields) (height || has_height_alone fields) (at + length (map_text fields)) inputs

abbrev pub or_else : {A : Type 0} → Option A → Option A → Option A
or_else (Some x) other = Some x
or_else None other = other

-- what is wrong with the maps of inputs, which begin at a place, together
abbrev pub unjoined : PsbtVersion → (at : ℕ) → (inputs : List Map) → Option Refusal
unjoined version.Zero at inputs = None
unjoined version.Two at inputs =
    or_else (at_place RepeatedOutpoint (repeated_at [] at inputs)) (at_place LockTime (unserved_at false false at inputs))

-- what the bytes of a PSBT give, from behind the magic on
unfoldable pub read_psbt : (psbt : Bytes) → Result Psbt Refusal
read_psbt psbt = do
  global ← map_at global_form psbt 5
  outline ← outline_at global
  inputs ← maps_at (input_rules (version_of global.0)) psbt (input_count outline) global.1
  outputs ← maps_at (output_rules (version_of global.0)) psbt (output_count outline) inputs.1
  read ← ended psbt outputs.1 (record { global = global.0; transaction = transaction_by outline global.0 inputs.0 outputs.0; inputs = inputs.0; outputs = outputs.0 })
  unless (unjoined (version_of global.0) global.1 inputs.0) (Ok read)
