use Rattle.std.proofs.Common.{sym, ap, subst, ◌∙◌}
use Rattle.def_psbt.specs.Transaction.{Transaction}
use Rattle.def_spend.specs.Reading.{AreInputs}
use Rattle.ms_input.specs.Verified.{IsVerifying}
use Rattle.ms_psbt_report.specs.Verifying.{shared_by}
use Rattle.ms_psbt_report.proofs.Walked.{output_here, outputs_left}
use Rattle.ms_psbt_report.proofs.Writing.{all_written}
use Rattle.ms_psbt_report.proofs.replies.finalizing.write_inputs.Goals as goal

pub write_input-requires-clause-verifying : goal.write_input-requires-clause-verifying
write_input-requires-clause-verifying c =
    let transaction = c.args.psbt.now.transaction in
    let own = c.unsigned_transaction-transaction.ensures.transaction in
    let shared = c.shared_for-shared.ensures ∙ ap (shared_by c.args.verification) own in
    let output = output_here transaction.outputs _ c.loop-number.number _ c.loop-number.invariant.1 c.next_output.ensures.first in
    subst (λ (t : Transaction). IsVerifying c.verifying_by-verifying.result t c.loop-number.number) (sym own)
    (c.verifying_by-verifying.ensures c.args.verification transaction c.loop-number.number shared output).1

pub loop-number-preserved : goal.loop-number-preserved
loop-number-preserved c =
    let transaction = c.args.psbt.now.transaction in
    let shared = c.shared_for-shared.ensures ∙ ap (shared_by c.args.verification) c.unsigned_transaction-transaction.ensures.transaction in
    let output = output_here transaction.outputs _ c.loop-number.number _ c.loop-number.invariant.1 c.next_output.ensures.first in
    let counted = (c.verifying_by-verifying.ensures c.args.verification transaction c.loop-number.number shared output).0 in (
      λ inputs are. c.in_ok-write_input.ensures inputs (subst (λ v. AreInputs v c.args.psbt.now inputs) (sym counted) are) (c.loop-number.invariant.0 inputs are),
      outputs_left transaction.outputs _ _ c.loop-number.number c.loop-number.invariant.1 c.next_output.ensures.rest,
    )

pub returns : goal.returns
returns c inputs are =
    all_written c.args.verification c.args.psbt.now inputs c.input_count-number-end.result c.loop-number.number c.loop-number.written are
    c.input_count-number-end.ensures.maps c.input_count-number-end.ensures.inputs c.loop-number-test.false (c.loop-number.invariant.0 inputs are)
