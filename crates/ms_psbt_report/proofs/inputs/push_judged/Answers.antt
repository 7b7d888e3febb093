use Rattle.std.proofs.Common.{sym, ap, ◌∙◌}
use Rattle.std.specs.Option.{option_map}
use Rattle.std.proofs.lemmas.Result.{on_ok_weaker}
use Rattle.def_spend.specs.States.{state_of, is_sane}
use Rattle.ms_input.specs.Seen.{input_seen}
use Rattle.ms_psbt_report.proofs.Judged.{words_judged, told_verified}
use Rattle.ms_psbt_report.proofs.InputLines.{all_signed}
use Rattle.ms_psbt_report.proofs.inputs.push_judged.Goals as goal

pub returns-in-Some : goal.returns-in-Some
returns-in-Some c =
    let input = c.args.input.now in
    let s = state_of (input_seen input) in
    let words = words_judged s input.spend c.in-Some.words.now (ap (option_map (λ w. w.now)) (sym c.in-Some.is) ∙ c.words.ensures) in
    on_ok_weaker c.push_signature_lines.result (all_signed _ _ s input.spend _ c.signatures.ensures)
    (c.push_signature_lines.ensures (is_sane s) input.spend c.signatures.ensures words)

pub returns-in-None : goal.returns-in-None
returns-in-None c =
    let input = c.args.input.now in
    let s = state_of (input_seen input) in
    on_ok_weaker c.push_signature_lines-in-None.result (all_signed _ _ s input.spend _ c.signatures-in-None.ensures)
    (c.push_signature_lines-in-None.ensures (is_sane s) input.spend c.signatures-in-None.ensures
    (c.new-table.ensures, told_verified (is_sane s) input.spend c.requires.sane c.requires.verified))
