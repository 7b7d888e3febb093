-- What the signatures of an input sign, by its map.
use Rattle.std.specs.Prelude.{ℕ, [], Option, Result, Ok, Err}
use Rattle.std.specs.Option.{option_map}
use Rattle.def_script.specs.Bytes.{Bytes}
use Rattle.def_spend.specs.declared.State.{State}
use Rattle.def_spend.specs.Amount.{known_amount}
use Rattle.def_spend.specs.Utxo.{utxo_of, amount_of}
use Rattle.def_spend.specs.HashTypes.{hash_type_of}
use Rattle.def_spend.specs.SignatureHash.{signature_hash}
use Rattle.def_spend.specs.Input.{Spend}
use Rattle.def_spend.specs.Reading.{script_code}

abbrev pub script_or_none : Result Bytes State → Bytes
script_or_none (Ok script) = script
script_or_none (Err state) = []

-- the Script of an input that has one
abbrev pub script_in : Spend → Bytes
script_in spend = script_or_none (script_code spend)

-- the amount of an input whose output is known
abbrev pub spent_amount : Spend → ℕ
spent_amount spend = known_amount (amount_of (utxo_of spend.input.outpoint spend.fields))

-- what a signature signs whose hash type has this number, where it is one
abbrev pub hash_by : (number : ℕ) → Spend → Option Bytes
hash_by number spend =
    option_map
    (λ type. signature_hash type spend.transaction spend.number spend.input (script_in spend) (spent_amount spend))
    (hash_type_of number)
