use Rattle.std.proofs.Common.{ℕ, ◌≤◌, slice_get, Option, if◌then◌else◌, sym, ap, subst, ◌∙◌, arith}
use Rattle.std.specs.List.{flat_map, list_all}
use Rattle.def_psbt.specs.Transaction.{TransactionOutput, Transaction}
use Rattle.def_psbt_answer.specs.declared.status.Status.TheVariants as status
use Rattle.def_psbt_answer.specs.Verified.{input_verdict, verify_report}
use Rattle.def_spend.specs.declared.Verification.TheVariants.{Verified}
use Rattle.ms_sighash.specs.Shared.{shared_of, IsOutputText}
use Rattle.ms_input.specs.Seen.{input_seen}
use Rattle.ms_psbt_report.proofs.Walked.{output_here, outputs_left}
use Rattle.ms_psbt_report.proofs.Spends.{spent_by}
use Rattle.ms_psbt_report.proofs.Loops.{all_taken, lines_more}
use Rattle.ms_psbt_report.proofs.Validity.{valid_input, valid_more}
use Rattle.ms_psbt_report.proofs.verifying.verify.Goals as goal

pub read-requires-clause-verifying : goal.read-requires-clause-verifying
read-requires-clause-verifying c =
    let transaction = c.args.psbt.now.transaction in
    let shared = c.shared_hashes-shared.ensures ∙ ap shared_of c.unsigned_transaction-transaction.ensures.transaction in
    let output = output_here transaction.outputs _ c.loop-number.number _ c.loop-number.invariant.2 c.next_output-output.ensures.first in
    (c.verifying_with-verifying.ensures transaction c.loop-number.number shared output).1

pub push_input_verdict-requires-clause-output : goal.push_input_verdict-requires-clause-output
push_input_verdict-requires-clause-output c =
    let spend = c.in_ok-input.input.spend in
    let outputs = c.args.psbt.now.transaction.outputs in
    let own =
    ap (λ (t : Transaction). slice_get t.outputs spend.number) c.in_ok-input.ensures.transaction ∙ ap (λ (n : ℕ). slice_get outputs n) c.in_ok-input.ensures.number in
    subst (λ (o : Option TransactionOutput). IsOutputText o c.next_output-output.result) (sym own)
    (output_here outputs _ c.loop-number.number _ c.loop-number.invariant.2 c.next_output-output.ensures.first)

pub loop-number-preserved : goal.loop-number-preserved
loop-number-preserved c =
    let transaction = c.args.psbt.now.transaction in
    let outputs = transaction.outputs in
    let shared = c.shared_hashes-shared.ensures ∙ ap shared_of c.unsigned_transaction-transaction.ensures.transaction in
    let output = output_here outputs _ c.loop-number.number _ c.loop-number.invariant.2 c.next_output-output.ensures.first in
    let counted = (c.verifying_with-verifying.ensures transaction c.loop-number.number shared output).0 in
    let there = spent_by _ Verified c.args.psbt.now c.loop-number.number c.in_ok-input.input.spend counted c.in_ok-input.ensures.spend in (
      λ inputs are.
          lines_more input_verdict Verified c.args.psbt.now inputs c.loop-number.number (input_seen c.in_ok-input.input) _ _ are there c.in_ok-input.ensures.reading
          (c.loop-number.invariant.0 inputs are) c.in_ok-is_valid.ensures.lines,
      λ inputs are.
          valid_more Verified c.args.psbt.now inputs c.loop-number.number (input_seen c.in_ok-input.input) _ _ _ are there c.in_ok-input.ensures.reading
          (c.loop-number.invariant.1 inputs are) c.in_ok-is_valid.ensures.valid c.stay_valid-are_valid.ensures,
      outputs_left outputs _ _ c.loop-number.number c.loop-number.invariant.2 c.next_output-output.ensures.rest,
    )

pub returns-clause-report : goal.returns-clause-report
unfolding verify_report
returns-clause-report c inputs are =
    let past : c.input_count-number-end.result ≤ c.loop-number.number = omega arith in
    c.loop-number.invariant.0 inputs are
    ∙ ap (flat_map input_verdict)
    (all_taken Verified c.args.psbt.now inputs c.input_count-number-end.result c.loop-number.number are c.input_count-number-end.ensures.maps c.input_count-number-end.ensures.inputs past)

pub returns-clause-status : goal.returns-clause-status
returns-clause-status c inputs are =
    let past : c.input_count-number-end.result ≤ c.loop-number.number = omega arith in
    c.status_of.ensures
    ∙ ap (λ b. if b then status.Done else status.Open) (c.loop-number.invariant.1 inputs are
    ∙ ap (list_all valid_input)
    (all_taken Verified c.args.psbt.now inputs c.input_count-number-end.result c.loop-number.number are c.input_count-number-end.ensures.maps c.input_count-number-end.ensures.inputs past))
