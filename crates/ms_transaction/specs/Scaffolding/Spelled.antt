-- Inputs and outputs with their bytes. No public clause cites it, so it need not be believed.
use Rattle.std.specs.Prelude.{◌≡◌, ℕ, ◌^◌, ◌<◌, List, ◌++◌, length}
use Rattle.std.specs.Int.{w32, w64, to_le_bytes, from_le_bytes}
use Rattle.std.specs.List.{flat_map, AllByRecursion}
use Rattle.def_script.specs.Bytes.{Bytes}
use Rattle.def_psbt.specs.Transaction.{TransactionInput, TransactionOutput, input_text, output_text, inputs_text, outputs_text}
use Rattle.ms_transaction.specs.Unsigned.{IsUnsigned}

-- an input, and an output, that is read back from its bytes
pub record IsInput (input : TransactionInput) : Type 0 where
  pub id : length input.outpoint.id ≡ 32
  pub index : from_le_bytes w32 (to_le_bytes w32 input.outpoint.index) ≡ input.outpoint.index
  pub script_sig : length input.script_sig < 2 ^ 64
  pub sequence : from_le_bytes w32 (to_le_bytes w32 input.sequence) ≡ input.sequence

pub record IsOutput (output : TransactionOutput) : Type 0 where
  pub amount : from_le_bytes w64 (to_le_bytes w64 output.amount) ≡ output.amount
  pub script : length output.script < 2 ^ 64

-- these are the bytes of outputs
pub record AreOutputs (bytes : Bytes) : Type 0 where
  pub outputs : List TransactionOutput
  pub text : bytes ≡ flat_map output_text outputs
  pub each : AllByRecursion IsOutput outputs

-- these are the bytes of inputs
pub record AreInputs (bytes : Bytes) : Type 0 where
  pub inputs : List TransactionInput
  pub text : bytes ≡ flat_map input_text inputs
  pub each : AllByRecursion IsInput inputs

-- these are the bytes of inputs and outputs, and their numbers
pub record AreSides (text input_bytes output_bytes : Bytes) (input_count output_count : ℕ) : Type 0 where
  pub inputs : AreInputs input_bytes
  pub outputs : AreOutputs output_bytes
  pub whole : text ≡ inputs_text inputs.inputs ++ outputs_text outputs.outputs
  pub input_number : input_count ≡ length inputs.inputs
  pub output_number : output_count ≡ length outputs.outputs

-- these are the bytes of an input without a scriptSig
pub record IsEmptyInput (bytes : Bytes) : Type 0 where
  pub input : TransactionInput
  pub text : bytes ≡ input_text input
  pub spelled : IsInput input
  pub unsigned : IsUnsigned input
