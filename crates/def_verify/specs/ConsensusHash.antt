-- What consensus has a signature sign by its last byte, whichever that is (BIP 143, "Specification"; Bitcoin Core: `SignatureHash`).
use Rattle.std.specs.Prelude.{ℕ, ◌%◌, ◌==◌, ◌++◌, nat_le, if◌then◌else◌}
use Rattle.std.specs.Int.{w32, w64, to_le_bytes}
use Rattle.def_hash.specs.Hash.{hash256}
use Rattle.def_script.specs.Bytes.{Bytes}
use Rattle.def_script.specs.Witness.{sized}
use Rattle.def_psbt.specs.Transaction.{outpoint_text}
use Rattle.def_spend.specs.declared.SignedOutputs.{SignedOutputs}
use Rattle.def_spend.specs.declared.SignedOutputs.TheVariants as outputs
use Rattle.def_spend.specs.declared.HashType.{HashType}
use Rattle.def_spend.specs.HashTypes.{hash_type}
use Rattle.def_spend.specs.SignatureHash.{signed_prevouts, signed_sequences, signed_outputs}
use Rattle.def_spend.specs.Hashes.{spent_amount}
use Rattle.def_spend.specs.Input.{Spend}

-- the lower five bits say which outputs are signed: all, where they are neither 2 (NONE) nor 3 (SINGLE)
abbrev pub outputs_by : (byte : ℕ) → SignedOutputs
outputs_by byte = if byte % 32 == 2 then outputs.None else if byte % 32 == 3 then outputs.Single else outputs.All

-- and the highest bit says whether further inputs may be added (ANYONECANPAY)
abbrev pub type_by : (byte : ℕ) → HashType
type_by byte = hash_type (outputs_by byte) (nat_le 0x80 byte)

-- the ten fields, of which the last is the byte and three zero bytes
abbrev pub consensus_text : (byte : ℕ) → Spend → (script : Bytes) → Bytes
consensus_text byte spend script =
    to_le_bytes w32 spend.transaction.version
    ++ signed_prevouts (type_by byte) spend.transaction
    ++ signed_sequences (type_by byte) spend.transaction
    ++ outpoint_text spend.input.outpoint
    ++ sized script
    ++ to_le_bytes w64 (spent_amount spend)
    ++ to_le_bytes w32 spend.input.sequence
    ++ signed_outputs (outputs_by byte) spend.transaction spend.number
    ++ to_le_bytes w32 spend.transaction.lock_time
    ++ to_le_bytes w32 byte

-- what is signed for an input by a signature that ends in this byte, where this is the Script that is run
abbrev pub consensus_hash : (byte : ℕ) → Spend → (script : Bytes) → Bytes
consensus_hash byte spend script = hash256 (consensus_text byte spend script)
