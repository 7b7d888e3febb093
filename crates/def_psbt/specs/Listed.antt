-- The types that are listed, and what is wrong with a pair of a map (BIP 174 and BIP 370, "Specification").
use Rattle.std.specs.Prelude.{ℕ, ◌==◌, ◌||◌, nat_le, Bool, true, false, length, if◌then◌else◌, is_some, Option, Some, None, Ok, Err}
use Rattle.std.specs.List.{list_any}
use Rattle.std.specs.Int.{w32, from_le_bytes}
use Rattle.std.specs.Str.{bytes_eq}
use Rattle.def_hash.specs.declared.HashKind.{HashKind}
use Rattle.def_hash.specs.declared.HashKind.TheVariants as kind
use Rattle.def_hash.specs.Hash.{digest_of, digest_length}
use Rattle.def_script.specs.Bytes.{Bytes}
use Rattle.def_script.specs.Sizes.{SizeReading, read_size}
use Rattle.def_psbt.specs.Types.{GLOBAL_UNSIGNED_TX, GLOBAL_TX_VERSION, GLOBAL_FALLBACK_LOCKTIME, GLOBAL_INPUT_COUNT, GLOBAL_OUTPUT_COUNT, GLOBAL_TX_MODIFIABLE, GLOBAL_VERSION, IN_NON_WITNESS_UTXO, IN_WITNESS_UTXO, IN_PARTIAL_SIG, IN_SIGHASH_TYPE, IN_REDEEM_SCRIPT, IN_WITNESS_SCRIPT, IN_BIP32_DERIVATION, IN_FINAL_SCRIPTSIG, IN_FINAL_SCRIPTWITNESS, IN_RIPEMD160, IN_SHA256, IN_HASH160, IN_HASH256, IN_PREVIOUS_TXID, IN_OUTPUT_INDEX, IN_SEQUENCE, IN_REQUIRED_TIME_LOCKTIME, IN_REQUIRED_HEIGHT_LOCKTIME, OUT_REDEEM_SCRIPT, OUT_WITNESS_SCRIPT, OUT_BIP32_DERIVATION, OUT_AMOUNT, OUT_SCRIPT}
use Rattle.def_psbt.specs.declared.PsbtFault.{PsbtFault}
use Rattle.def_psbt.specs.declared.PsbtFault.TheVariants.{RepeatedKey, KeyForm, ValueForm, Version, Excluded}
use Rattle.def_psbt.specs.declared.PsbtVersion.{PsbtVersion}
use Rattle.def_psbt.specs.declared.PsbtVersion.TheVariants as version
use Rattle.def_psbt.specs.Map.{Pair, Map, type_of, data_of}
use Rattle.def_psbt.specs.TransactionReading.{transaction_of, network_transaction_of}
use Rattle.def_psbt.specs.Forms.{is_public_key, is_signature, is_unsigned, output_of, witness_of, is_derivation, is_size, is_time, is_height}

-- the form of a type: which data its keys have, and what is wrong with a value under such data
pub record Form : Type 0 where
  pub key : (data_bytes : Bytes) → Bool
  pub value : (data_bytes value : Bytes) → Option PsbtFault

-- a value that passes a test
abbrev pub passes : Bool → Option PsbtFault
passes true = None
passes false = Some ValueForm

-- keys without data
abbrev pub no_data : Bytes → Bool
no_data bytes = nat_le (length bytes) 0

-- keys without data, and a test of the value
abbrev pub plain : (Bytes → Bool) → Form
plain test = record { key = no_data; value = λ data_bytes value. passes (test value) }

-- keys that name a public key, and a test of the value
abbrev pub keyed : (Bytes → Bool) → Form
keyed test = record { key = is_public_key; value = λ data_bytes value. passes (test value) }

-- keys that are the digest of the value
abbrev pub preimage : HashKind → Form
preimage kind = record {
  key = λ data_bytes. length data_bytes == digest_length kind;
  value = λ data_bytes value. passes (bytes_eq (digest_of kind value) data_bytes);
}

-- any key and any value
abbrev pub unlisted : Form
unlisted = record { key = λ data_bytes. true; value = λ data_bytes value. None }

-- keys without data, and a value of so many bytes
abbrev pub sized_plain : (size : ℕ) → Form
sized_plain size = plain (λ value. length value == size)

-- a version of 4 bytes, low byte first, which is 0 or 2
abbrev pub is_version : ℕ → Bool
is_version number = (number == 0) || (number == 2)

abbrev pub version_fault : Bytes → Option PsbtFault
version_fault value =
    if length value == 4 then (if is_version (from_le_bytes w32 value) then None else Some Version)
    else Some ValueForm

-- a type that stands in version 2 alone: in version 0 a pair with nothing wrong by its form is excluded
abbrev pub or_excluded : Option PsbtFault → Option PsbtFault
or_excluded None = Some Excluded
or_excluded (Some fault) = Some fault

abbrev pub later : PsbtVersion → Form → Form
later version.Zero form = record form { value = λ data_bytes value. or_excluded (form.value data_bytes value) }
later version.Two form = form

-- the types of the global map. Which of them stand in the PSBT's version is known only where the map ends
unfoldable pub global_form : (type : ℕ) → Form
global_form type =
    if type == GLOBAL_UNSIGNED_TX then plain (λ value. is_unsigned (transaction_of value))
    else if type == GLOBAL_TX_VERSION then sized_plain 4
    else if type == GLOBAL_FALLBACK_LOCKTIME then sized_plain 4
    else if type == GLOBAL_INPUT_COUNT then plain is_size
    else if type == GLOBAL_OUTPUT_COUNT then plain is_size
    else if type == GLOBAL_TX_MODIFIABLE then sized_plain 1
    else if type == GLOBAL_VERSION then record { key = no_data; value = λ data_bytes value. version_fault value }
    else unlisted

-- the types of a map of an input
unfoldable pub input_form : PsbtVersion → (type : ℕ) → Form
input_form version type =
    if type == IN_NON_WITNESS_UTXO then plain (λ value. is_some (network_transaction_of value))
    else if type == IN_WITNESS_UTXO then plain (λ value. is_some (output_of value))
    else if type == IN_PARTIAL_SIG then keyed is_signature
    else if type == IN_SIGHASH_TYPE then plain (λ value. length value == 4)
    else if type == IN_REDEEM_SCRIPT then plain (λ value. true)
    else if type == IN_WITNESS_SCRIPT then plain (λ value. true)
    else if type == IN_BIP32_DERIVATION then keyed is_derivation
    else if type == IN_FINAL_SCRIPTSIG then plain (λ value. true)
    else if type == IN_FINAL_SCRIPTWITNESS then plain (λ value. is_some (witness_of value))
    else if type == IN_RIPEMD160 then preimage kind.Ripemd160
    else if type == IN_SHA256 then preimage kind.Sha256
    else if type == IN_HASH160 then preimage kind.Hash160
    else if type == IN_HASH256 then preimage kind.Hash256
    else if type == IN_PREVIOUS_TXID then later version (sized_plain 32)
    else if type == IN_OUTPUT_INDEX then later version (sized_plain 4)
    else if type == IN_SEQUENCE then later version (sized_plain 4)
    else if type == IN_REQUIRED_TIME_LOCKTIME then later version (plain is_time)
    else if type == IN_REQUIRED_HEIGHT_LOCKTIME then later version (plain is_height)
    else unlisted

-- the types of a map of an output
unfoldable pub output_form : PsbtVersion → (type : ℕ) → Form
output_form version type =
    if type == OUT_REDEEM_SCRIPT then plain (λ value. true)
    else if type == OUT_WITNESS_SCRIPT then plain (λ value. true)
    else if type == OUT_BIP32_DERIVATION then keyed is_derivation
    else if type == OUT_AMOUNT then later version (sized_plain 8)
    else if type == OUT_SCRIPT then later version (plain (λ value. true))
    else unlisted

-- the type inside a key is whole and in its shortest spelling
abbrev pub is_typed : SizeReading → Bool
is_typed (Ok read) = true
is_typed (Err fault) = false

-- the same key stood before
abbrev pub stands : (key : Bytes) → Map → Bool
stands key before = list_any (λ (pair : Pair). bytes_eq key pair.key) before

-- what is wrong with a pair by its form alone
abbrev pub form_fault : Form → Pair → Option PsbtFault
form_fault form pair =
    if form.key (data_of pair.key) then form.value (data_of pair.key) pair.value
    else Some KeyForm

-- what is wrong with a pair by its key and its value alone
unfoldable pub shape_fault : (forms : ℕ → Form) → Pair → Option PsbtFault
shape_fault forms pair =
    if is_typed (read_size pair.key) then form_fault (forms (type_of pair.key)) pair
    else Some KeyForm

-- what is wrong with a pair that was read whole behind others of its map, in the order of the tests
unfoldable pub pair_fault : (forms : ℕ → Form) → (before : Map) → Pair → Option PsbtFault
pair_fault forms before pair = if stands pair.key before then Some RepeatedKey else shape_fault forms pair
