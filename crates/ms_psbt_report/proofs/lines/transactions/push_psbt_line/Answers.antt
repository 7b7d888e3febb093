use Rattle.std.proofs.lemmas.Result.{on_ok_weaker}
use Rattle.ms_psbt_report.proofs.Told.{told_line}
use Rattle.ms_psbt_report.proofs.lines.transactions.push_psbt_line.Goals as goal

pub returns : goal.returns
returns c transaction told =
    on_ok_weaker c.push_text-2.result
    (λ e. told_line transaction c.args.summary.now _ _ _ _ _ _ _ _ told c.in_ok-push_named.ensures c.in_ok-push_named-2.ensures
    c.in_ok-push_named-3.ensures c.in_ok-push_named-4.ensures c.in_ok-push_text.ensures c.in_ok-push_id.ensures e)
    c.push_text-2.ensures
