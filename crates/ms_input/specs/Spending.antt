-- What an input spends, as contracts see it.
use Rattle.std.specs.Prelude.{◌≡◌, Result, Ok, Err}
use Rattle.std.specs.Borrow.{Bor}
use Rattle.std.specs.Option.{option_and_then}
use Rattle.def_script.specs.Bytes.{Bytes}
use Rattle.def_psbt.specs.Transaction.{Outpoint, TransactionInput}
use Rattle.def_psbt.specs.TransactionReading.{network_transaction_of}
use Rattle.def_psbt.specs.Forms.{output_of}
use Rattle.def_spend.specs.declared.State.{State}
use Rattle.def_spend.specs.Amount.{Amount as TheAmount}
use Rattle.def_spend.specs.Amount as the_amount
use Rattle.def_spend.specs.Utxo.{Utxo as TheUtxo, utxo_by}
use Rattle.def_spend.specs.Utxo as the
use Rattle.def_spend.specs.Input.{Spend}
use Rattle.ms_input.specs.Held.{Held, held_in}
use Rattle.ms_input.specs.declared.utxo.amount.Amount.{Amount}
use Rattle.ms_input.specs.declared.utxo.amount.Amount.TheVariants as amount
use Rattle.ms_input.specs.declared.utxo.code.ScriptCode.{ScriptCode}
use Rattle.ms_input.specs.declared.utxo.code.ScriptCode.TheVariants as code
use Rattle.ms_input.specs.declared.utxo.Utxo.{Utxo}
use Rattle.ms_input.specs.declared.utxo.Utxo.TheVariants as utxo

abbrev pub amount_seen : Amount → TheAmount
amount_seen amount.Unknown = the_amount.unknown
amount_seen (amount.Proved satoshis) = the_amount.proved satoshis
amount_seen (amount.Claimed satoshis) = the_amount.claimed satoshis

abbrev pub utxo_seen : Utxo → TheUtxo
utxo_seen utxo.None = the.none
utxo_seen utxo.Wrong = the.wrong
utxo_seen (utxo.Proved output) = the.proved output
utxo_seen (utxo.Claimed output) = the.claimed output

-- the output of an outpoint, by what a map holds
abbrev pub utxo_held : Outpoint → Held → TheUtxo
utxo_held outpoint held =
    utxo_by (option_and_then network_transaction_of held.previous) (option_and_then output_of held.output) outpoint

abbrev pub script_seen : Result (Bor Bytes) State → Result Bytes State
script_seen (Ok script) = Ok script.now
script_seen (Err state) = Err state

abbrev pub code_seen : ScriptCode → Bytes
code_seen (code.Witness script) = script.now
code_seen (code.KeyHash script) = script

abbrev pub code_found : Result ScriptCode State → Result Bytes State
code_found (Ok code) = Ok (code_seen code)
code_found (Err state) = Err state

-- this is the input, and these are the fields of its map
pub record IsSpending (spend : Spend) (input : TransactionInput) (held : Held) : Type 0 where
  pub same_input : input ≡ spend.input
  pub fields : held ≡ held_in spend.fields
