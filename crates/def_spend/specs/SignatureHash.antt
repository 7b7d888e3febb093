-- What a signature signs (BIP 143, "Specification"; Bitcoin Core: `SignatureHash`). No miniscript has OP_CODESEPARATOR,
-- so the Script is that of the witness, whole.
use Rattle.std.specs.Prelude.{ℕ, ◌++◌, replicate, if◌then◌else◌, slice_get, Option, Some, None}
use Rattle.std.specs.List.{flat_map}
use Rattle.std.specs.Int.{w32, w64, to_le_bytes}
use Rattle.def_hash.specs.Hash.{hash256}
use Rattle.def_script.specs.Bytes.{Bytes}
use Rattle.def_script.specs.Witness.{sized}
use Rattle.def_psbt.specs.Transaction.{TransactionInput, TransactionOutput, Transaction, outpoint_text, output_text}
use Rattle.def_spend.specs.declared.SignedOutputs.{SignedOutputs}
use Rattle.def_spend.specs.declared.SignedOutputs.TheVariants as outputs
use Rattle.def_spend.specs.declared.HashType.{HashType}
use Rattle.def_spend.specs.HashTypes.{number_of}

-- 32 zero bytes, where a hash isn't signed
abbrev pub NO_HASH : Bytes
NO_HASH = replicate 32 0

-- the hash of all outpoints
abbrev pub hash_prevouts : Transaction → Bytes
hash_prevouts transaction = hash256 (flat_map (λ input. outpoint_text input.outpoint) transaction.inputs)

-- the hash of all sequence numbers
abbrev pub hash_sequence : Transaction → Bytes
hash_sequence transaction = hash256 (flat_map (λ input. to_le_bytes w32 input.sequence) transaction.inputs)

-- the hash of all outputs
abbrev pub hash_outputs : Transaction → Bytes
hash_outputs transaction = hash256 (flat_map output_text transaction.outputs)

-- the hash of one output, where there is one
abbrev pub hash_output : Option TransactionOutput → Bytes
hash_output None = NO_HASH
hash_output (Some output) = hash256 (output_text output)

-- ---- what of them is signed

abbrev pub signed_prevouts : HashType → Transaction → Bytes
signed_prevouts type transaction = if type.anyone_can_pay then NO_HASH else hash_prevouts transaction

-- those of other inputs aren't signed with NONE and SINGLE
abbrev pub sequences_by : SignedOutputs → Transaction → Bytes
sequences_by outputs.All transaction = hash_sequence transaction
sequences_by outputs.None transaction = NO_HASH
sequences_by outputs.Single transaction = NO_HASH

abbrev pub signed_sequences : HashType → Transaction → Bytes
signed_sequences type transaction = if type.anyone_can_pay then NO_HASH else sequences_by type.outputs transaction

-- all outputs, none, or that with the number of the input
abbrev pub signed_outputs : SignedOutputs → Transaction → (number : ℕ) → Bytes
signed_outputs outputs.All transaction number = hash_outputs transaction
signed_outputs outputs.None transaction number = NO_HASH
signed_outputs outputs.Single transaction number = hash_output (slice_get transaction.outputs number)

-- ---- the hash

-- the ten fields, for an input with its number, the Script of its witness and the amount that it spends
abbrev pub signed_text : HashType → Transaction → (number : ℕ) → TransactionInput → (script : Bytes) → (amount : ℕ) → Bytes
signed_text type transaction number input script amount =
    to_le_bytes w32 transaction.version
    ++ signed_prevouts type transaction
    ++ signed_sequences type transaction
    ++ outpoint_text input.outpoint
    ++ sized script
    ++ to_le_bytes w64 amount
    ++ to_le_bytes w32 input.sequence
    ++ signed_outputs type.outputs transaction number
    ++ to_le_bytes w32 transaction.lock_time
    ++ to_le_bytes w32 (number_of type)

abbrev pub signature_hash : HashType → Transaction → (number : ℕ) → TransactionInput → (script : Bytes) → (amount : ℕ) → Bytes
signature_hash type transaction number input script amount = hash256 (signed_text type transaction number input script amount)
