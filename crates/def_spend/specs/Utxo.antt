-- The output that an input spends (BIP 174: `PSBT_IN_NON_WITNESS_UTXO`, `PSBT_IN_WITNESS_UTXO`).
use Rattle.std.specs.Prelude.{if◌then◌else◌, slice_get, Option, Some, None}
use Rattle.std.specs.Option.{option_and_then}
use Rattle.std.specs.Str.{bytes_eq}
use Rattle.def_psbt.specs.Transaction.{Outpoint, TransactionOutput, Transaction, output_text, id_of}
use Rattle.def_psbt.specs.TransactionReading.{network_transaction_of}
use Rattle.def_psbt.specs.Forms.{output_of}
use Rattle.def_psbt.specs.Map.{Map}
use Rattle.def_spend.specs.Amount.{Amount}
use Rattle.def_spend.specs.Amount as amount
use Rattle.def_psbt.specs.Types.{IN_NON_WITNESS_UTXO, IN_WITNESS_UTXO}
use Rattle.def_spend.specs.Fields.{field}

pub data Utxo : Type 0 where
  -- the map has neither the previous transaction nor the output
  none : Utxo
  -- the previous transaction isn't that of the outpoint, or hasn't the output
  wrong : Utxo
  -- the output of the previous transaction, whose id proves it
  proved : (output : TransactionOutput) → Utxo
  -- the output as the map claims it
  claimed : (output : TransactionOutput) → Utxo

-- an output of the previous transaction, from which the claimed one doesn't differ
abbrev pub proved_output : (former : Option TransactionOutput) → (claim : Option TransactionOutput) → Utxo
proved_output None claim = wrong
proved_output (Some output) None = proved output
proved_output (Some output) (Some other) = if bytes_eq (output_text output) (output_text other) then proved output else wrong

abbrev pub utxo_by : (previous : Option Transaction) → (claim : Option TransactionOutput) → Outpoint → Utxo
utxo_by None None outpoint = none
utxo_by None (Some output) outpoint = claimed output
utxo_by (Some previous) claim outpoint =
    if bytes_eq (id_of previous) outpoint.id then proved_output (slice_get previous.outputs outpoint.index) claim
    else wrong

-- the output of an outpoint, by an input's map
abbrev pub utxo_of : Outpoint → (fields : Map) → Utxo
utxo_of outpoint fields =
    utxo_by
    (option_and_then network_transaction_of (field IN_NON_WITNESS_UTXO fields))
    (option_and_then output_of (field IN_WITNESS_UTXO fields))
    outpoint

-- ---- amounts

-- the amount of an output that is known
abbrev pub amount_of : Utxo → Amount
amount_of none = amount.unknown
amount_of wrong = amount.unknown
amount_of (proved output) = amount.proved output.amount
amount_of (claimed output) = amount.claimed output.amount
