use Rattle.std.proofs.Common.{◌≡◌, ◌<◌, ◌^◌, length, arith}
use Rattle.std.proofs.lemmas.Result.{err_from_is_err_and}
use Rattle.def_script.specs.Bytes.{IsBytes}
use Rattle.def_psbt.specs.Reading.{input_rules, output_rules}
use Rattle.ms_psbt.specs.Scaffolding.Walks.{starts_from}
use Rattle.ms_psbt.proofs.Reading.{global_found, global_refused, global_stop, inputs_stop, outputs_stop, trails, transaction_stop, is_read}
use Rattle.ms_psbt.proofs.psbt.read_psbt.Goals as goal

pub returns-in_err-after-clause-reading : goal.returns-in_err-after-clause-reading
returns-in_err-after-clause-reading c =
    let refused = err_from_is_err_and c.from_residual.result c.from_residual.ensures.1 in
    rw (refused.1, refused.2) (global_stop c.args.bytes.now c.in_err-after.field-0.0 c.in_err-after.ensures.reading)

pub returns-in_err-outlined-clause-reading : goal.returns-in_err-outlined-clause-reading
returns-in_err-outlined-clause-reading c =
    let refused = err_from_is_err_and c.from_residual-in_err-outlined.result c.from_residual-in_err-outlined.ensures.1 in
    rw (refused.1, refused.2) (global_refused c.args.bytes.now c.in_ok-after.after c.version_in-version.result c.in_err-outlined.field-0.0 c.in_ok-after.ensures.reading
    c.version_in-version.ensures c.in_err-outlined.ensures)

pub returns-in_err-middle-clause-reading : goal.returns-in_err-middle-clause-reading
returns-in_err-middle-clause-reading c =
    let refused = err_from_is_err_and c.from_residual-in_err-middle.result c.from_residual-in_err-middle.ensures.1 in
    rw (refused.1, refused.2)
    (inputs_stop (global_found c.args.bytes.now c.in_ok-after.after c.version_in-version.result c.in_ok-outlined.outlined c.in_ok-after.ensures.reading
    c.version_in-version.ensures c.in_ok-outlined.ensures) c.in_err-middle.field-0.0 c.in_err-middle.ensures.reading)

pub returns-in_err-last-clause-reading : goal.returns-in_err-last-clause-reading
returns-in_err-last-clause-reading c =
    let refused = err_from_is_err_and c.from_residual-in_err-last.result c.from_residual-in_err-last.ensures.1 in
    rw (refused.1, refused.2)
    (outputs_stop (global_found c.args.bytes.now c.in_ok-after.after c.version_in-version.result c.in_ok-outlined.outlined c.in_ok-after.ensures.reading
    c.version_in-version.ensures c.in_ok-outlined.ensures) c.in_ok-middle.ensures.reading c.in_err-last.field-0.0 c.in_err-last.ensures.reading)

pub returns-then-last-bytes-clause-reading : goal.returns-then-last-bytes-clause-reading
returns-then-last-bytes-clause-reading c =
    trails (global_found c.args.bytes.now c.in_ok-after.after c.version_in-version.result c.in_ok-outlined.outlined c.in_ok-after.ensures.reading
    c.version_in-version.ensures c.in_ok-outlined.ensures) c.in_ok-middle.ensures.reading c.in_ok-last.ensures.reading c.if-last-bytes.true

pub returns-in_err-transaction-clause-reading : goal.returns-in_err-transaction-clause-reading
returns-in_err-transaction-clause-reading c =
    let fits : IsBytes c.args.bytes.now = λ i. omega (arith, c.type_inv.bytes i) in
    let small : length c.args.bytes.now < 2 ^ 64 = omega (arith, c.requires.short) in
    let g = global_found c.args.bytes.now c.in_ok-after.after c.version_in-version.result c.in_ok-outlined.outlined c.in_ok-after.ensures.reading
    c.version_in-version.ensures c.in_ok-outlined.ensures in
    let ins_are : c.as_slice.result.now ≡ starts_from (input_rules c.version_in-version.result) c.args.bytes.now c.in_ok-outlined.outlined.inputs c.in_ok-after.after = grind arith in
    let outs_are : c.as_slice-2.result.now ≡ starts_from (output_rules c.version_in-version.result) c.args.bytes.now c.in_ok-outlined.outlined.outputs c.in_ok-middle.middle = grind arith in
    let refused = err_from_is_err_and c.from_residual-in_err-transaction.result c.from_residual-in_err-transaction.ensures.1 in
    rw (refused.1, refused.2)
    (transaction_stop g c.in_ok-middle.ensures.reading c.in_ok-last.ensures.reading fits small ins_are outs_are c.in_err-transaction.field-0.0 c.in_err-transaction.ensures c.if-last-bytes.false)

pub invariant_of-result : goal.invariant_of-result
invariant_of-result c =
    let fits : IsBytes c.args.bytes.now = λ i. omega (arith, c.type_inv.bytes i) in
    let small : length c.args.bytes.now < 2 ^ 64 = omega (arith, c.requires.short) in
    let g = global_found c.args.bytes.now c.in_ok-after.after c.version_in-version.result c.in_ok-outlined.outlined c.in_ok-after.ensures.reading
    c.version_in-version.ensures c.in_ok-outlined.ensures in
    let ins_are : c.as_slice.result.now ≡ starts_from (input_rules c.version_in-version.result) c.args.bytes.now c.in_ok-outlined.outlined.inputs c.in_ok-after.after = grind arith in
    let outs_are : c.as_slice-2.result.now ≡ starts_from (output_rules c.version_in-version.result) c.args.bytes.now c.in_ok-outlined.outlined.outputs c.in_ok-middle.middle = grind arith in
    is_read g c.in_ok-middle.ensures.reading c.in_ok-last.ensures.reading fits small ins_are outs_are c.in_ok-transaction.transaction _
    c.in_ok-transaction.ensures c.requires.short c.requires.magic c.if-last-bytes.false (grind arith)

pub returns : goal.returns
returns c =
    let fits : IsBytes c.args.bytes.now = λ i. omega (arith, c.type_inv.bytes i) in
    let small : length c.args.bytes.now < 2 ^ 64 = omega (arith, c.requires.short) in
    let g = global_found c.args.bytes.now c.in_ok-after.after c.version_in-version.result c.in_ok-outlined.outlined c.in_ok-after.ensures.reading
    c.version_in-version.ensures c.in_ok-outlined.ensures in
    let ins_are : c.as_slice.result.now ≡ starts_from (input_rules c.version_in-version.result) c.args.bytes.now c.in_ok-outlined.outlined.inputs c.in_ok-after.after = grind arith in
    let outs_are : c.as_slice-2.result.now ≡ starts_from (output_rules c.version_in-version.result) c.args.bytes.now c.in_ok-outlined.outlined.outputs c.in_ok-middle.middle = grind arith in
    let kept = is_read g c.in_ok-middle.ensures.reading c.in_ok-last.ensures.reading fits small ins_are outs_are c.in_ok-transaction.transaction c.push.new.self.items
    c.in_ok-transaction.ensures c.requires.short c.requires.magic c.if-last-bytes.false (grind arith) in
    record { reading = kept.read; sound = kept.sound; text = kept.text }
