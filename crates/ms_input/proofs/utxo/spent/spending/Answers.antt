use Rattle.std.proofs.Common.{◌∙◌, ap}
use Rattle.def_spend.specs.Kinds.{is_nested, kind_with}
use Rattle.ms_input.specs.Spending.{script_seen, utxo_held}
use Rattle.ms_input.specs.Scaffolding.Utxos.{script_held}
use Rattle.ms_input.proofs.Scripts.{program_told, script_is, kind_is}
use Rattle.ms_input.proofs.utxo.spent.spending.Goals as goal

pub returns-clause-kind : goal.returns-clause-kind
returns-clause-kind c spend h =
    c.kind_with.ensures
    ∙ ap (λ b. kind_with b (script_seen c.program_of_utxo-program.result)) (c.is_nested.ensures ∙ ap is_nested c.utxo_of-utxo.ensures)
    ∙ ap (kind_with (is_nested (utxo_held c.args.input.now.outpoint c.args.fields.now)))
    (program_told _ _ _ _ _ c.program_of_utxo-program.ensures c.utxo_of-utxo.ensures c.redeem.ensures)
    ∙ kind_is spend c.args.input.now c.args.fields.now h

pub returns-clause-script : goal.returns-clause-script
returns-clause-script c spend h =
    c.script_code.ensures
    ∙ ap (λ p. script_held p c.args.fields.now) (program_told _ _ _ _ _ c.program_of_utxo-program.ensures c.utxo_of-utxo.ensures c.redeem.ensures)
    ∙ script_is spend c.args.input.now c.args.fields.now h
