use Rattle.std.proofs.Common.{◌≤◌, List, sym, subst, arith}
use Rattle.def_spend.specs.Reading.{Input, AreInputs}
use Rattle.ms_psbt_report.specs.Scaffolding.Told.{AreTold}
use Rattle.ms_psbt_report.proofs.Loops.{all_taken}
use Rattle.ms_psbt_report.proofs.Walked.{output_here, outputs_left}
use Rattle.ms_psbt_report.proofs.inspecting.tell_inputs.Goals as goal

pub returns : goal.returns
returns c inputs are =
    let past : c.input_count-number-end.result ≤ c.loop-number.number = omega arith in
    subst (λ (xs : List Input). AreTold c.args.transaction.now xs c.loop-number.told)
    (all_taken c.args.verification c.args.psbt.now inputs c.input_count-number-end.result c.loop-number.number are c.input_count-number-end.ensures.maps c.input_count-number-end.ensures.inputs past)
    (c.loop-number.invariant.0 inputs are)

pub tell_input-requires-clause-verifying : goal.tell_input-requires-clause-verifying
tell_input-requires-clause-verifying c =
    let transaction = c.args.transaction.now in
    let output = output_here transaction.outputs _ c.loop-number.number _ c.loop-number.invariant.2 c.next_output.ensures.first in
    (c.verifying_by-verifying.ensures c.args.verification transaction c.loop-number.number c.shared_for-shared.ensures output).1

pub loop-number-preserved : goal.loop-number-preserved
loop-number-preserved c =
    let transaction = c.args.transaction.now in
    let output = output_here transaction.outputs _ c.loop-number.number _ c.loop-number.invariant.2 c.next_output.ensures.first in
    let counted = (c.verifying_by-verifying.ensures c.args.verification transaction c.loop-number.number c.shared_for-shared.ensures output).0 in (
      λ inputs are. c.in_ok-tell_input.ensures.told inputs (subst (λ v. AreInputs v c.args.psbt.now inputs) (sym counted) are) (c.loop-number.invariant.0 inputs are),
      c.in_ok-tell_input.ensures.most,
      outputs_left transaction.outputs _ _ c.loop-number.number c.loop-number.invariant.2 c.next_output.ensures.rest,
    )
