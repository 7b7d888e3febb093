use Rattle.std.proofs.Common.{◌<◌, ◌≤◌, sym, ◌∙◌, arith}
use Rattle.def_spend.specs.declared.Verification.TheVariants.{Unverified}
use Rattle.ms_psbt_report.proofs.Loops.{open_more, open_here, open_nowhere}
use Rattle.ms_psbt_report.proofs.open.first_open.Goals as goal

pub returns-then-not-branch : goal.returns-then-not-branch
returns-then-not-branch c inputs are =
    let below : c.loop-number.number < c.input_count-number-end.result = omega arith in
    open_here Unverified c.args.psbt.now inputs c.input_count-number-end.result c.loop-number.number are c.input_count-number-end.ensures.maps c.input_count-number-end.ensures.inputs below
    (λ map is. sym c.if-not-branch.true ∙ c.in_ok-is_final_at.ensures map is) (c.loop-number.invariant inputs are)

pub loop-number-preserved : goal.loop-number-preserved
loop-number-preserved c inputs are =
    let below : c.loop-number.number < c.input_count-number-end.result = omega arith in
    open_more Unverified c.args.psbt.now inputs c.input_count-number-end.result c.loop-number.number are c.input_count-number-end.ensures.maps c.input_count-number-end.ensures.inputs below
    (λ map is. sym c.if-not-branch.false ∙ c.in_ok-is_final_at.ensures map is) (c.loop-number.invariant inputs are)

pub returns : goal.returns
returns c inputs are =
    let past : c.input_count-number-end.result ≤ c.loop-number.number = omega arith in
    open_nowhere Unverified c.args.psbt.now inputs c.input_count-number-end.result c.loop-number.number are c.input_count-number-end.ensures.maps c.input_count-number-end.ensures.inputs past
    (c.loop-number.invariant inputs are)
