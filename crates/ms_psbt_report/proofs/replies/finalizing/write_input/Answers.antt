use Rattle.std.proofs.Common.{◌≡◌, ◌&&◌, ◌||◌, ap, ◌∙◌}
use Rattle.def_spend.specs.States.{is_final, is_ready}
use Rattle.def_psbt_answer.specs.Reply.{is_settled}
use Rattle.ms_input.specs.Seen.{input_seen}
use Rattle.ms_input.specs.Verified.{verification_of}
use Rattle.ms_psbt_report.proofs.Writing.{written_more, and_settled, and_not}
use Rattle.ms_psbt_report.proofs.replies.finalizing.write_input.Goals as goal
use Rattle.ms_psbt_report.proofs.replies.finalizing.write_input.Goals.{then-written, else-written}

pub returns : goal.returns
returns c inputs are is =
    let before = c.args.written.now.are_settled in
    let input = input_seen c.in_ok-input.input in
    let settled : c.if-written.written ≡ (before && is_settled input) =
    elim c.if-written.branch [
      | then-written w ↦ and_settled before c.if-written.written (is_settled input) w.if-written.true
          (w.written-is ∙ w.is_settled-written.ensures ∙ ap (λ s. is_final s || is_ready s) w.state.ensures)
      | else-written w ↦ and_not before c.if-written.written (is_settled input) w.if-written.false (w.written-is ∙ w.if-written.false)
    ] in
    written_more (verification_of c.args.verifying) c.args.psbt.now inputs c.args.number input c.args.written.now _ are c.in_ok-input.ensures.spend c.in_ok-input.ensures.reading is
    c.in_ok-add_map.ensures settled
