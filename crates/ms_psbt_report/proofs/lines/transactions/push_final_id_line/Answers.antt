use Rattle.std.proofs.Common.{◌++◌, codes, sym, ap, ◌∙◌, append_assoc}
use Rattle.std.proofs.lemmas.Result.{on_ok_weaker}
use Rattle.def_script.specs.Bytes.{Bytes}
use Rattle.def_psbt_answer.specs.Lines.{id_digits, final_id_line}
use Rattle.ms_psbt_report.proofs.lines.transactions.push_final_id_line.Goals as goal

pub returns : goal.returns
returns c =
    let own : Bytes = c.args.report.now.items in
    let name : Bytes = codes "final txid " in
    let digits : Bytes = id_digits c.in-Some.id in
    on_ok_weaker c.push_text-2.result
    (λ last. last ∙ ap (λ (l : Bytes). l ++ codes "\n") (c.in_ok-push_id.ensures ∙ ap (λ (l : Bytes). l ++ digits) c.in_ok-push_text.ensures)
    ∙ ap (λ (l : Bytes). l ++ codes "\n") (append_assoc own name digits)
    ∙ append_assoc own (name ++ digits) (codes "\n")
    ∙ ap (λ o. own ++ final_id_line o) (sym c.in-Some.is))
    c.push_text-2.ensures
