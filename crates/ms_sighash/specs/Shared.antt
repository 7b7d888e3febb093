-- What all signatures of a transaction share, and how its parts lie in a PSBT.
use Rattle.std.specs.Prelude.{◌≡◌, ℕ, ⊤, [], ◌++◌, length, take, drop, slice_get, All, if◌then◌else◌, Option, Some, None}
use Rattle.std.specs.Borrow.{Bor}
use Rattle.std.specs.List.{flat_map}
use Rattle.std.specs.Int.{w32, w64, to_le_bytes}
use Rattle.def_hash.specs.Hash.{hash256}
use Rattle.def_script.specs.Bytes.{Bytes}
use Rattle.def_script.specs.Sizes.{size_bytes}
use Rattle.def_psbt.specs.Transaction.{TransactionInput, TransactionOutput, Transaction, input_text, output_text}
use Rattle.def_spend.specs.declared.SignedOutputs.{SignedOutputs}
use Rattle.def_spend.specs.declared.SignedOutputs.TheVariants as outputs
use Rattle.def_spend.specs.declared.HashType.{HashType}
use Rattle.def_spend.specs.HashTypes.{number_of}
use Rattle.def_verify.specs.ConsensusHash.{outputs_by, type_by}
use Rattle.def_spend.specs.SignatureHash.{NO_HASH, hash_prevouts, hash_sequence, hash_outputs}

pub record Shared : Type 0 where
  pub version : ℕ
  pub prevouts : Bytes
  pub sequences : Bytes
  pub outputs : Bytes
  pub lock_time : ℕ

abbrev pub shared_of : Transaction → Shared
shared_of transaction = record {
  version = transaction.version;
  prevouts = hash_prevouts transaction;
  sequences = hash_sequence transaction;
  outputs = hash_outputs transaction;
  lock_time = transaction.lock_time;
}

-- an input without a scriptSig
pub record IsUnsigned (input : TransactionInput) : Type 0 where
  pub id : length input.outpoint.id ≡ 32
  pub script_sig : input.script_sig ≡ []

-- a transaction without scriptSigs has this version and lock time, and these are the bytes of its inputs and outputs,
-- without their numbers
pub record AreParts (transaction : Transaction) (version : ℕ) (inputs outputs : Bytes) (lock_time : ℕ) : Type 0 where
  pub same_version : version ≡ transaction.version
  pub unsigned : All IsUnsigned transaction.inputs
  pub input_bytes : inputs ≡ flat_map input_text transaction.inputs
  pub output_bytes : outputs ≡ flat_map output_text transaction.outputs
  pub same_lock_time : lock_time ≡ transaction.lock_time

-- ---- what is signed, from the parts

abbrev pub prevouts_from : HashType → Shared → Bytes
prevouts_from type shared = if type.anyone_can_pay then NO_HASH else shared.prevouts

abbrev pub sequences_by : SignedOutputs → Shared → Bytes
sequences_by outputs.All shared = shared.sequences
sequences_by outputs.None shared = NO_HASH
sequences_by outputs.Single shared = NO_HASH

abbrev pub sequences_from : HashType → Shared → Bytes
sequences_from type shared = if type.anyone_can_pay then NO_HASH else sequences_by type.outputs shared

-- the hash of the bytes of an output, where there is one
abbrev pub hash_of_output : Option (Bor Bytes) → Bytes
hash_of_output None = NO_HASH
hash_of_output (Some output) = hash256 output.now

abbrev pub outputs_from : SignedOutputs → Shared → (output : Option (Bor Bytes)) → Bytes
outputs_from outputs.All shared output = shared.outputs
outputs_from outputs.None shared output = NO_HASH
outputs_from outputs.Single shared output = hash_of_output output

-- the fields before the outpoint
abbrev pub front_from : HashType → Shared → Bytes
front_from type shared = to_le_bytes w32 shared.version ++ prevouts_from type shared ++ sequences_from type shared

-- what is signed with a type of this number, from the bytes of the input and the hash of outputs
abbrev pub text_by : HashType → (number : ℕ) → Shared → (input outputs script : Bytes) → (amount : ℕ) → Bytes
text_by type number shared input outputs script amount =
    front_from type shared
    ++ take 36 input
    ++ size_bytes (length script)
    ++ script
    ++ to_le_bytes w64 amount
    ++ take 4 (drop 37 input)
    ++ outputs
    ++ to_le_bytes w32 shared.lock_time
    ++ to_le_bytes w32 number

-- what is signed by a hash type, from the bytes of the input and of the output with its number
abbrev pub text_from : HashType → Shared → (input : Bytes) → (output : Option (Bor Bytes)) → (script : Bytes) → (amount : ℕ) → Bytes
text_from type shared input output script amount =
    text_by type (number_of type) shared input (outputs_from type.outputs shared output) script amount

-- what is signed by a byte, from the bytes of the input and the hash of the output with its number
abbrev pub outputs_with : SignedOutputs → Shared → (single : Bytes) → Bytes
outputs_with outputs.All shared single = shared.outputs
outputs_with outputs.None shared single = NO_HASH
outputs_with outputs.Single shared single = single

abbrev pub byte_hash : (byte : ℕ) → Shared → (input single script : Bytes) → (amount : ℕ) → Bytes
byte_hash byte shared input single script amount =
    hash256 (text_by (type_by byte) byte shared input (outputs_with (outputs_by byte) shared single) script amount)

-- these are the bytes of an output, where there is one
abbrev pub IsOutputText : Option TransactionOutput → Option (Bor Bytes) → Type 0
IsOutputText (Some output) (Some bytes) = bytes.now ≡ output_text output
IsOutputText None None = ⊤
IsOutputText None (Some bytes) = ⊥
IsOutputText (Some output) None = ⊥

-- these are the bytes of the input with this number, without a scriptSig, and those of the output with its number
pub record AreSigned (transaction : Transaction) (number : ℕ) (signed : TransactionInput) (input : Bytes) (output : Option (Bor Bytes)) : Type 0 where
  pub unsigned : IsUnsigned signed
  pub input_bytes : input ≡ input_text signed
  pub output_bytes : IsOutputText (slice_get transaction.outputs number) output
