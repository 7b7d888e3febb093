-- The fields of a transaction in the maps of a PSBT of version 2 (BIP 370, "Specification"), by BIP 370's names without `PSBT_`.
use Rattle.std.specs.Prelude.{ℕ, ◌==◌, ◌&&◌, ◌||◌, not, max, Bool, List, [], ◌∷◌, ◌++◌, is_some, if◌then◌else◌, map, unwrap_or, Option, Some, None}
use Rattle.std.specs.List.{list_any}
use Rattle.std.specs.Int.{w32, w64, from_le_bytes}
use Rattle.def_script.specs.Bytes.{Bytes}
use Rattle.def_psbt.specs.Types.{GLOBAL_TX_VERSION, GLOBAL_FALLBACK_LOCKTIME, GLOBAL_VERSION, IN_PREVIOUS_TXID, IN_OUTPUT_INDEX, IN_SEQUENCE, IN_REQUIRED_TIME_LOCKTIME, IN_REQUIRED_HEIGHT_LOCKTIME, OUT_AMOUNT, OUT_SCRIPT}
use Rattle.def_psbt.specs.declared.PsbtVersion.{PsbtVersion}
use Rattle.def_psbt.specs.declared.PsbtVersion.TheVariants as version
use Rattle.def_psbt.specs.Part.{Part, first_size}
use Rattle.def_psbt.specs.Transaction.{TransactionInput, TransactionOutput, Transaction}
use Rattle.def_psbt.specs.Map.{Map, pair_of_type, value_of_type}

-- ---- fields

-- the value of a field, which is empty where it isn't there
abbrev pub value_in : (type : ℕ) → Map → Bytes
value_in type fields = unwrap_or (value_of_type type fields) []

-- a number, low byte first; another one where the field isn't there
abbrev pub number_or : (none : ℕ) → Option Bytes → ℕ
number_or none None = none
number_or none (Some value) = from_le_bytes w32 value

-- a CompactSize
abbrev pub size_read : Part ℕ → ℕ
size_read (Some part) = part.0
size_read None = 0

abbrev pub size_in : (type : ℕ) → Map → ℕ
size_in type fields = size_read (first_size (value_in type fields))

abbrev pub has_field : (type : ℕ) → Map → Bool
has_field type fields = is_some (pair_of_type type fields)

-- the version of a PSBT, by its global map: 0 where it isn't told
abbrev pub version_number : (global : Map) → ℕ
version_number global = number_or 0 (value_of_type GLOBAL_VERSION global)

abbrev pub version_of : (global : Map) → PsbtVersion
version_of global = if version_number global == 2 then version.Two else version.Zero

-- ---- the lock time (BIP 370, "Determining Lock Time")

-- an input has a time, or a height, and not the other
abbrev pub has_time_alone : (fields : Map) → Bool
has_time_alone fields = has_field IN_REQUIRED_TIME_LOCKTIME fields && not (has_field IN_REQUIRED_HEIGHT_LOCKTIME fields)

abbrev pub has_height_alone : (fields : Map) → Bool
has_height_alone fields = has_field IN_REQUIRED_HEIGHT_LOCKTIME fields && not (has_field IN_REQUIRED_TIME_LOCKTIME fields)

-- an input has either
abbrev pub has_lock : (fields : Map) → Bool
has_lock fields = has_field IN_REQUIRED_TIME_LOCKTIME fields || has_field IN_REQUIRED_HEIGHT_LOCKTIME fields

-- the greatest number of a field among the inputs
abbrev pub greatest : (type : ℕ) → (inputs : List Map) → ℕ
greatest type [] = 0
greatest type (fields ∷ inputs) = max (number_or 0 (value_of_type type fields)) (greatest type inputs)

-- the fallback where no input has either; the greatest height where each input that has either has one, else the greatest time
abbrev pub lock_time_of : (fallback : ℕ) → (inputs : List Map) → ℕ
lock_time_of fallback inputs =
    if list_any has_lock inputs
    then greatest (if list_any has_time_alone inputs then IN_REQUIRED_TIME_LOCKTIME else IN_REQUIRED_HEIGHT_LOCKTIME) inputs
    else fallback

-- ---- the transaction

-- the bytes of an input's outpoint
abbrev pub outpoint_in : (fields : Map) → Bytes
outpoint_in fields = value_in IN_PREVIOUS_TXID fields ++ value_in IN_OUTPUT_INDEX fields

abbrev pub input_of : (fields : Map) → TransactionInput
input_of fields = record {
  outpoint = record { id = value_in IN_PREVIOUS_TXID fields; index = from_le_bytes w32 (value_in IN_OUTPUT_INDEX fields) };
  script_sig = [];
  sequence = number_or 0xffffffff (value_of_type IN_SEQUENCE fields);
}

abbrev pub output_of : (fields : Map) → TransactionOutput
output_of fields = record { amount = from_le_bytes w64 (value_in OUT_AMOUNT fields); script = value_in OUT_SCRIPT fields }

-- the transaction of the fields of all maps
abbrev pub transaction_of_fields : (global : Map) → (inputs outputs : List Map) → Transaction
transaction_of_fields global inputs outputs = record {
  version = from_le_bytes w32 (value_in GLOBAL_TX_VERSION global);
  inputs = map input_of inputs;
  outputs = map output_of outputs;
  lock_time = lock_time_of (number_or 0 (value_of_type GLOBAL_FALLBACK_LOCKTIME global)) inputs;
}
