use Rattle.std.proofs.Common.{sym, ap, ◌∙◌}
use Rattle.std.proofs.lemmas.Result.{on_ok_weaker}
use Rattle.def_spend.specs.States.{state_of, is_sane}
use Rattle.ms_input.specs.Seen.{input_seen}
use Rattle.ms_input.specs.Verified.{verification_of}
use Rattle.ms_psbt_report.proofs.Judged.{untold_unknown, untold_unverified}
use Rattle.ms_psbt_report.proofs.InputLines.{all_signed}
use Rattle.ms_psbt_report.proofs.inputs.push_signatures.Goals as goal

pub returns-then-not-is_sane : goal.returns-then-not-is_sane
returns-then-not-is_sane c =
    let input = c.args.input.now in
    let s = state_of (input_seen input) in
    let unknown = sym (ap is_sane c.state.ensures) ∙ sym c.is_sane.ensures ∙ c.if-not-is_sane.true in
    on_ok_weaker c.push_signature_lines.result (all_signed _ _ s input.spend _ c.signatures.ensures)
    (c.push_signature_lines.ensures (is_sane s) input.spend c.signatures.ensures (untold_unknown (is_sane s) input.spend unknown))

pub returns-in-Unverified : goal.returns-in-Unverified
returns-in-Unverified c =
    let input = c.args.input.now in
    let s = state_of (input_seen input) in
    let unverified = sym c.requires.0 ∙ ap verification_of c.in-Unverified.is in
    on_ok_weaker c.push_signature_lines-in-Unverified.result (all_signed _ _ s input.spend _ c.signatures-in-Unverified.ensures)
    (c.push_signature_lines-in-Unverified.ensures (is_sane s) input.spend c.signatures-in-Unverified.ensures (untold_unverified (is_sane s) input.spend unverified))
