use Rattle.std.proofs.Common.{arith}
use Rattle.def_psbt.specs.TransactionReading.{first_input, first_output}
use Rattle.ms_transaction.proofs.BothSides.{sides_read, no_inputs, no_outputs, no_size}
use Rattle.ms_transaction.proofs.sides.first_sides.Goals as goal

pub returns-in_err-input_count : goal.returns-in_err-input_count
returns-in_err-input_count c = rw c.from_residual.ensures (no_inputs c.args.bytes.now c.in_err-input_count.ensures)

pub returns-in_err-output_count : goal.returns-in_err-output_count
returns-in_err-output_count c =
    rw c.from_residual-in_err-output_count.ensures (no_outputs c.args.bytes.now c.in_ok-input_count.middle.now c.in_ok-input_count.input_count
    c.in_ok-input_count.ensures c.in_err-output_count.ensures)

pub returns-in_err-inputs : goal.returns-in_err-inputs
returns-in_err-inputs c = absurd (no_size first_input c.args.bytes.now c.in_ok-input_count.input_count c.in_ok-input_count.middle.now c.in_ok-input_count.ensures c.in_err-inputs.ensures)

pub returns-in_err-outputs : goal.returns-in_err-outputs
returns-in_err-outputs c = absurd (no_size first_output c.in_ok-input_count.middle.now c.in_ok-output_count.output_count c.in_ok-output_count.rest.now
    c.in_ok-output_count.ensures c.in_err-outputs.ensures)

pub before-requires : goal.before-requires
before-requires c =
    (sides_read c.args.bytes.now c.in_ok-input_count.middle.now c.in_ok-output_count.rest.now c.in_ok-inputs.inputs.now c.in_ok-outputs.outputs.now
    c.in_ok-input_count.input_count c.in_ok-output_count.output_count c.in_ok-inputs.field-0-0 c.in_ok-outputs.field-0-0
    (omega arith) (λ i. omega (arith, c.type_inv.bytes i)) c.in_ok-input_count.ensures c.in_ok-output_count.ensures c.in_ok-inputs.ensures c.in_ok-outputs.ensures).inside

pub before-requires-2 : goal.before-requires-2
before-requires-2 c =
    (sides_read c.args.bytes.now c.in_ok-input_count.middle.now c.in_ok-output_count.rest.now c.in_ok-inputs.inputs.now c.in_ok-outputs.outputs.now
    c.in_ok-input_count.input_count c.in_ok-output_count.output_count c.in_ok-inputs.field-0-0 c.in_ok-outputs.field-0-0
    (omega arith) (λ i. omega (arith, c.type_inv.bytes i)) c.in_ok-input_count.ensures c.in_ok-output_count.ensures c.in_ok-inputs.ensures c.in_ok-outputs.ensures).inputs_inside

pub before-requires-3 : goal.before-requires-3
before-requires-3 c =
    (sides_read c.args.bytes.now c.in_ok-input_count.middle.now c.in_ok-output_count.rest.now c.in_ok-inputs.inputs.now c.in_ok-outputs.outputs.now
    c.in_ok-input_count.input_count c.in_ok-output_count.output_count c.in_ok-inputs.field-0-0 c.in_ok-outputs.field-0-0
    (omega arith) (λ i. omega (arith, c.type_inv.bytes i)) c.in_ok-input_count.ensures c.in_ok-output_count.ensures c.in_ok-inputs.ensures c.in_ok-outputs.ensures).outputs_inside

pub invariant_of-result : goal.invariant_of-result
invariant_of-result c =
    ((sides_read c.args.bytes.now c.in_ok-input_count.middle.now c.in_ok-output_count.rest.now c.in_ok-inputs.inputs.now c.in_ok-outputs.outputs.now
    c.in_ok-input_count.input_count c.in_ok-output_count.output_count c.in_ok-inputs.field-0-0 c.in_ok-outputs.field-0-0
    (omega arith) (λ i. omega (arith, c.type_inv.bytes i)) c.in_ok-input_count.ensures c.in_ok-output_count.ensures c.in_ok-inputs.ensures
    c.in_ok-outputs.ensures).sides c.before-2.result.now c.before-3.result.now c.before-4.result.now c.before-2.ensures c.before-3.ensures
    c.before-4.ensures).0

pub returns : goal.returns
returns c =
    ((sides_read c.args.bytes.now c.in_ok-input_count.middle.now c.in_ok-output_count.rest.now c.in_ok-inputs.inputs.now c.in_ok-outputs.outputs.now
    c.in_ok-input_count.input_count c.in_ok-output_count.output_count c.in_ok-inputs.field-0-0 c.in_ok-outputs.field-0-0
    (omega arith) (λ i. omega (arith, c.type_inv.bytes i)) c.in_ok-input_count.ensures c.in_ok-output_count.ensures c.in_ok-inputs.ensures
    c.in_ok-outputs.ensures).sides c.before-2.result.now c.before-3.result.now c.before-4.result.now c.before-2.ensures c.before-3.ensures
    c.before-4.ensures).1
