use Rattle.std.proofs.Common.{ℕ, Vec, Global, length, ◌<◌, ◌^◌, ap, arith}
use Rattle.std.proofs.lemmas.Result.{err_from_is_err_and}
use Rattle.def_script.specs.Bytes.{IsBytes}
use Rattle.ms_psbt.proofs.Making.{given_bytes, when_given, when_counted, later_made, later_stops}
use Rattle.ms_psbt.proofs.psbt.transaction_of.Goals as goal

pub returns-in-Given : goal.returns-in-Given
returns-in-Given c = λ global said a b middle ins outs e told is placed many others many_others.
    when_given c.args.outline c.in-Given.bytes.now global said a b ins outs (ap given_bytes c.in-Given.is) told is

pub returns-in_err-bytes-in-Counted : goal.returns-in_err-bytes-in-Counted
returns-in_err-bytes-in-Counted c = λ global said a b middle ins outs e told is placed many others many_others.
    let fits : IsBytes c.args.psbt.now = λ i. omega (arith, c.type_inv.psbt i) in
    let small : length c.args.psbt.now < 2 ^ 64 = omega (arith, c.requires) in
    let k = when_counted c.args.psbt.now fits small c.args.outline global said a b middle c.args.inputs.now c.args.outputs.now ins outs
    (ap given_bytes c.in-Counted.is) e told is placed many others many_others in
    let refused = err_from_is_err_and c.from_residual.result c.from_residual.ensures.1 in
    rw (refused.1, refused.2) (later_stops k (λ (out : Vec ℕ Global). out.items) c.in_err-bytes-in-Counted.field-0.0
    (c.in_err-bytes-in-Counted.ensures global global.1 middle ins outs e k.needs k.ins_at k.outs_at k.back))

pub returns-in_ok-bytes-in-Counted : goal.returns-in_ok-bytes-in-Counted
returns-in_ok-bytes-in-Counted c = λ global said a b middle ins outs e told is placed many others many_others.
    let fits : IsBytes c.args.psbt.now = λ i. omega (arith, c.type_inv.psbt i) in
    let small : length c.args.psbt.now < 2 ^ 64 = omega (arith, c.requires) in
    let k = when_counted c.args.psbt.now fits small c.args.outline global said a b middle c.args.inputs.now c.args.outputs.now ins outs
    (ap given_bytes c.in-Counted.is) e told is placed many others many_others in
    later_made k c.in_ok-bytes-in-Counted.bytes.items (c.in_ok-bytes-in-Counted.ensures global global.1 middle ins outs e k.needs k.ins_at k.outs_at k.back)
