use Rattle.std.proofs.Common.{ℕ, ◌≤◌, slice_get, ap, subst, sym, ◌∙◌, arith, Option}
use Rattle.std.specs.List.{flat_map}
use Rattle.def_psbt.specs.Transaction.{TransactionOutput, Transaction}
use Rattle.def_psbt_answer.specs.Report.{input_hashes, hashes_report}
use Rattle.ms_sighash.specs.Shared.{shared_of, IsOutputText}
use Rattle.ms_input.specs.Seen.{input_seen}
use Rattle.ms_psbt_report.proofs.Spends.{spent_by}
use Rattle.ms_psbt_report.proofs.Loops.{all_taken, lines_more}
use Rattle.ms_psbt_report.proofs.Walked.{output_here, outputs_left}
use Rattle.ms_psbt_report.proofs.hashing.hashes.Goals as goal

pub read-requires-clause-verifying : goal.read-requires-clause-verifying
read-requires-clause-verifying c =
    let transaction = c.args.psbt.now.transaction in
    let shared = c.shared_hashes-shared.ensures ∙ ap shared_of c.unsigned_transaction-transaction.ensures.transaction in
    let output = output_here transaction.outputs _ c.loop-number.number _ c.loop-number.invariant.1 c.next_output-output.ensures.first in
    (c.verifying_with-verifying.ensures transaction c.loop-number.number shared output).1

pub push_input_hashes-requires-clause-verification : goal.push_input_hashes-requires-clause-verification
push_input_hashes-requires-clause-verification c =
    let transaction = c.args.psbt.now.transaction in
    let shared = c.shared_hashes-shared.ensures ∙ ap shared_of c.unsigned_transaction-transaction.ensures.transaction in
    let output = output_here transaction.outputs _ c.loop-number.number _ c.loop-number.invariant.1 c.next_output-output.ensures.first in
    c.in_ok-input.ensures.verification ∙ (c.verifying_with-verifying.ensures transaction c.loop-number.number shared output).0

pub push_input_hashes-requires-clause-output : goal.push_input_hashes-requires-clause-output
push_input_hashes-requires-clause-output c =
    let spend = c.in_ok-input.input.spend in
    let outputs = c.args.psbt.now.transaction.outputs in
    let own =
    ap (λ (t : Transaction). slice_get t.outputs spend.number) c.in_ok-input.ensures.transaction ∙ ap (λ (n : ℕ). slice_get outputs n) c.in_ok-input.ensures.number in
    subst (λ (o : Option TransactionOutput). IsOutputText o c.next_output-output.result) (sym own)
    (output_here outputs _ c.loop-number.number _ c.loop-number.invariant.1 c.next_output-output.ensures.first)

pub loop-number-preserved : goal.loop-number-preserved
loop-number-preserved c =
    let transaction = c.args.psbt.now.transaction in
    let outputs = transaction.outputs in
    let shared = c.shared_hashes-shared.ensures ∙ ap shared_of c.unsigned_transaction-transaction.ensures.transaction in
    let output = output_here outputs _ c.loop-number.number _ c.loop-number.invariant.1 c.next_output-output.ensures.first in
    let counted = (c.verifying_with-verifying.ensures transaction c.loop-number.number shared output).0 in
    let there = spent_by _ c.args.verification c.args.psbt.now c.loop-number.number c.in_ok-input.input.spend counted c.in_ok-input.ensures.spend in (
      λ inputs are.
          lines_more input_hashes c.args.verification c.args.psbt.now inputs c.loop-number.number (input_seen c.in_ok-input.input) _ _ are
          there c.in_ok-input.ensures.reading
          (c.loop-number.invariant.0 inputs are) c.in_ok-push_input_hashes.ensures,
      outputs_left outputs _ _ c.loop-number.number c.loop-number.invariant.1 c.next_output-output.ensures.rest,
    )

pub returns : goal.returns
unfolding hashes_report
returns c inputs are =
    let past : c.input_count-number-end.result ≤ c.loop-number.number = omega arith in
    c.loop-number.invariant.0 inputs are
    ∙ ap (flat_map input_hashes)
    (all_taken c.args.verification c.args.psbt.now inputs c.input_count-number-end.result c.loop-number.number are c.input_count-number-end.ensures.maps c.input_count-number-end.ensures.inputs past)
