use Rattle.std.proofs.Common.{◌∙◌, arith}
use Rattle.ms_transaction.proofs.Spelling.{output_cut}
use Rattle.ms_transaction.proofs.outputs.first_output.Goals as goal

pub before-requires : goal.before-requires
before-requires c =
    (output_cut c.args.bytes.now c.in_ok-amount.amount c.in_ok-amount.rest.now c.in_ok-script.script.now c.in_ok-script.rest.now (omega arith)
    (λ i. omega (arith, c.type_inv.bytes i)) c.in_ok-amount.ensures c.in_ok-script.ensures).0

pub invariant_of-result : goal.invariant_of-result
invariant_of-result c =
    c.before-2.ensures
    ∙ (output_cut c.args.bytes.now c.in_ok-amount.amount c.in_ok-amount.rest.now c.in_ok-script.script.now c.in_ok-script.rest.now (omega arith)
    (λ i. omega (arith, c.type_inv.bytes i)) c.in_ok-amount.ensures c.in_ok-script.ensures).1
