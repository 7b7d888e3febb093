use Rattle.std.proofs.Common.{[], ◌∷◌, codes}
use Rattle.std.proofs.lemmas.Result.{on_ok_weaker}
use Rattle.def_psbt_answer.specs.Lines.{refusal_name}
use Rattle.ms_psbt_report.proofs.Joined.{three_texts}
use Rattle.ms_psbt_report.proofs.lines.refusals.push_refusal_line.Goals as goal

pub returns : goal.returns
returns c =
    on_ok_weaker c.push_text-2.result
    (three_texts c.args.report.now.items (codes "refused psbt ") (refusal_name c.args.refusal) (10 ∷ []) _ _ _
    c.in_ok-push_text.ensures c.in_ok-push_refusal.ensures)
    c.push_text-2.ensures
