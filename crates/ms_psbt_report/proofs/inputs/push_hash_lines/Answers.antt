use Rattle.std.proofs.lemmas.Result.{on_ok_weaker}
use Rattle.ms_psbt_report.proofs.InputLines.{hashed}
use Rattle.ms_psbt_report.proofs.inputs.push_hash_lines.Goals as goal

pub returns : goal.returns
returns c =
    let spend = c.args.input.now.spend in
    on_ok_weaker c.push_checks.result
    (hashed spend c.asked_type-asked.result c.hash_by.result c.signatures.result.now _ _ _ c.asked_type-asked.ensures
    (c.hash_by.ensures spend c.requires.table) c.signatures.ensures c.in_ok-push_sign_line.ensures)
    (c.push_checks.ensures spend c.signatures.ensures c.requires.table c.words_of-words.ensures)
