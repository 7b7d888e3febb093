-- The Script and the kind by the fields of a map are those of its input.
use Rattle.std.proofs.Common.{◌≡◌, Option, Result, ap, ◌∙◌}
use Rattle.def_script.specs.Bytes.{Bytes}
use Rattle.def_psbt.specs.Transaction.{TransactionInput}
use Rattle.def_spend.specs.declared.Kind.{Kind}
use Rattle.def_spend.specs.declared.State.{State}
use Rattle.def_spend.specs.Utxo.{Utxo}
use Rattle.def_spend.specs.Input.{Spend}
use Rattle.def_spend.specs.Kinds.{program_of_utxo, is_nested, kind_with, kind_of}
use Rattle.def_spend.specs.Reading.{script_code}
use Rattle.ms_input.specs.Held.{Held}
use Rattle.ms_input.specs.Spending.{IsSpending, utxo_held}
use Rattle.ms_input.specs.Scaffolding.Utxos.{script_held}

-- the program that is found, by the output and the redeem script that are
pub program_told : (found : Result Bytes State) (u spent : Utxo) (o redeem : Option Bytes) → found ≡ program_of_utxo u o → u ≡ spent → o ≡ redeem
    → found ≡ program_of_utxo spent redeem
program_told found u spent o redeem is same held = is ∙ ap (λ x. program_of_utxo x o) same ∙ ap (program_of_utxo spent) held

pub script_is : (spend : Spend) (input : TransactionInput) (held : Held) → IsSpending spend input held →
    script_held (program_of_utxo (utxo_held input.outpoint held) held.redeem) held ≡ script_code spend
script_is spend input held h =
    ap (λ (i : TransactionInput). script_held (program_of_utxo (utxo_held i.outpoint held) held.redeem) held) h.same_input
    ∙ ap (λ (x : Held). script_held (program_of_utxo (utxo_held spend.input.outpoint x) x.redeem) x) h.fields

abbrev kind_held : TransactionInput → Held → Kind
kind_held input held = kind_with (is_nested (utxo_held input.outpoint held)) (program_of_utxo (utxo_held input.outpoint held) held.redeem)

pub kind_is : (spend : Spend) (input : TransactionInput) (held : Held) → IsSpending spend input held →
    kind_with (is_nested (utxo_held input.outpoint held)) (program_of_utxo (utxo_held input.outpoint held) held.redeem) ≡ kind_of spend
kind_is spend input held h = ap (λ (i : TransactionInput). kind_held i held) h.same_input ∙ ap (λ (x : Held). kind_held spend.input x) h.fields
