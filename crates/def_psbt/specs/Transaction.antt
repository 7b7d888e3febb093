-- Transactions without their witnesses, and their bytes (Bitcoin Core: `CTransaction`, `SerializeTransaction`).
use Rattle.std.specs.Prelude.{ℕ, List, ◌++◌, length}
use Rattle.std.specs.List.{flat_map}
use Rattle.std.specs.Int.{w32, w64, to_le_bytes}
use Rattle.def_hash.specs.Hash.{hash256}
use Rattle.def_script.specs.Bytes.{Bytes}
use Rattle.def_script.specs.Sizes.{size_bytes}
use Rattle.def_script.specs.Witness.{sized}

-- the output that an input spends: the 32 bytes of the id of its transaction, as they lie in a
-- transaction, and its number there
pub record Outpoint : Type 0 where
  pub id : Bytes
  pub index : ℕ

pub record TransactionInput : Type 0 where
  pub outpoint : Outpoint
  pub script_sig : Bytes
  pub sequence : ℕ

-- an amount in satoshis, and the Script that guards it
pub record TransactionOutput : Type 0 where
  pub amount : ℕ
  pub script : Bytes

pub record Transaction : Type 0 where
  pub version : ℕ
  pub inputs : List TransactionInput
  pub outputs : List TransactionOutput
  pub lock_time : ℕ

abbrev pub outpoint_text : Outpoint → Bytes
outpoint_text outpoint = outpoint.id ++ to_le_bytes w32 outpoint.index

abbrev pub input_text : TransactionInput → Bytes
input_text input = outpoint_text input.outpoint ++ (sized input.script_sig ++ to_le_bytes w32 input.sequence)

abbrev pub output_text : TransactionOutput → Bytes
output_text output = to_le_bytes w64 output.amount ++ sized output.script

-- their number, and then the inputs, or the outputs, one after the other
abbrev pub inputs_text : List TransactionInput → Bytes
inputs_text inputs = size_bytes (length inputs) ++ flat_map input_text inputs

abbrev pub outputs_text : List TransactionOutput → Bytes
outputs_text outputs = size_bytes (length outputs) ++ flat_map output_text outputs

-- the bytes of a transaction without witnesses
abbrev pub transaction_text : Transaction → Bytes
transaction_text transaction =
    to_le_bytes w32 transaction.version
    ++ (inputs_text transaction.inputs ++ (outputs_text transaction.outputs ++ to_le_bytes w32 transaction.lock_time))

-- its id, as it lies in the outpoints that name it
abbrev pub id_of : Transaction → Bytes
id_of transaction = hash256 (transaction_text transaction)
