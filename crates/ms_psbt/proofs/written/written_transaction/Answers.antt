use Rattle.std.proofs.Common.{ℕ, is_some, true, ◌++◌, map, ap, ◌∙◌}
use Rattle.std.proofs.lemmas.Bool.{and_parts}
use Rattle.std.specs.Int.{w32, to_le_bytes, from_le_bytes}
use Rattle.def_psbt.specs.Fields.{value_in, input_of, output_of, lock_time_of}
use Rattle.def_psbt.specs.Listed.{global_form}
use Rattle.def_psbt.specs.Map.{pair_of_type}
use Rattle.def_psbt.specs.Transaction.{inputs_text, outputs_text}
use Rattle.ms_psbt.proofs.Locking.{has_value, transaction_version_is_long, fallback_is_long}
use Rattle.ms_psbt.proofs.Texts.{transaction_is, number_there}
use Rattle.ms_psbt.proofs.written.written_transaction.Goals as goal

pub returns-clause-text : goal.returns-clause-text
returns-clause-text c = λ global at middle ins outs e needed placed others.
    let psbt = c.args.psbt.now in
    let there = has_value 0x02 global.0 ((and_parts (is_some (pair_of_type 0x02 global.0)) true needed).0) in
    let version = c.number_or-version.ensures global_form global e (λ value is. transaction_version_is_long psbt 5 global value e is) ∙ number_there 0x02 global.0 there.0 there.1 in
    let fallback = c.number_or-fallback.ensures global_form global e (λ value is. fallback_is_long psbt 5 global value e is) in
    let lock_time = c.lock_time-lock_time.ensures at ins placed ∙ ap (λ (n : ℕ). lock_time_of n ins) fallback in
    transaction_is c.number_or-version.result c.lock_time-lock_time.result (inputs_text (map input_of ins)) (outputs_text (map output_of outs)) _ _ _ _
    (c.in_ok-push_number.ensures ∙ ap (λ x. x ++ to_le_bytes w32 c.number_or-version.result) c.in_ok-bytes.ensures.items)
    (c.in_ok-is_locked.ensures.text at ins placed) (c.in_ok-push_outputs.ensures middle outs others) c.in_ok-push_number-2.ensures
    ∙ ap (λ (n : ℕ). to_le_bytes w32 n ++ (inputs_text (map input_of ins) ++ (outputs_text (map output_of outs) ++ to_le_bytes w32 c.lock_time-lock_time.result))) version
    ∙ ap (λ (n : ℕ). to_le_bytes w32 (from_le_bytes w32 (value_in 0x02 global.0)) ++ (inputs_text (map input_of ins) ++ (outputs_text (map output_of outs) ++ to_le_bytes w32 n))) lock_time

pub returns-clause-locked : goal.returns-clause-locked
returns-clause-locked c = λ at maps placed. c.in_ok-is_locked.ensures.locked at maps placed
