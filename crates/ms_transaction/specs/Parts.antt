-- Inputs and outputs that lie in bytes, one after the other.
use Rattle.std.specs.Prelude.{List, [], length, Some, None}
use Rattle.def_script.specs.Bytes.{Bytes}
use Rattle.def_psbt.specs.Part.{Part}
use Rattle.def_psbt.specs.Transaction.{TransactionInput, TransactionOutput}
use Rattle.def_psbt.specs.TransactionReading.{first_input, first_output}
use Rattle.ms_psbt.specs.Pairs.{parts_in}

-- the inputs, and the outputs, that bytes begin with
abbrev pub inputs_in : Bytes → List TransactionInput
inputs_in bytes = parts_in first_input (length bytes) bytes

abbrev pub outputs_in : Bytes → List TransactionOutput
outputs_in bytes = parts_in first_output (length bytes) bytes

-- what is read at the front; an input of nothing where there is none
abbrev pub input_or_none : Part TransactionInput → TransactionInput
input_or_none (Some part) = part.0
input_or_none None = record { outpoint = record { id = []; index = 0 }; script_sig = []; sequence = 0 }

-- the input that bytes begin with
abbrev pub input_in : Bytes → TransactionInput
input_in bytes = input_or_none (first_input bytes)
