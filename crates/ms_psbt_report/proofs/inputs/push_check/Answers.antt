use Rattle.std.proofs.Common.{true, ap, ◌∙◌}
use Rattle.std.proofs.lemmas.Result.{on_ok_weaker}
use Rattle.def_spend.specs.Fields.{last_byte}
use Rattle.def_spend.specs.Hashes.{hash_by}
use Rattle.ms_psbt_report.proofs.InputLines.{check_told}
use Rattle.ms_psbt_report.proofs.inputs.push_check.Goals as goal

pub returns : goal.returns
returns c spend table words is =
    let hash =
    c.hash_by-hash.ensures spend table ∙ ap (λ n. hash_by n spend) (c.from.ensures ∙ c.last_byte.ensures ∙ ap last_byte c.sig.ensures) in
    on_ok_weaker c.push_check_line.result (λ e. e ∙ check_told _ spend c.args.pair.now _ _ hash (c.word-word.ensures true spend words is)) c.push_check_line.ensures
