use Rattle.std.proofs.Common.{Some, sym, ap, subst, ◌∙◌}
use Rattle.ms_psbt_report.specs.Scaffolding.Words.{AreWords}
use Rattle.ms_psbt_report.proofs.Judged.{word_told}
use Rattle.ms_psbt_report.proofs.words.Words.word.Goals as goal

pub returns-in-Untold : goal.returns-in-Untold
returns-in-Untold c known spend words is = sym (subst (AreWords known spend) c.in-Untold.is words c.args.pair.now)

pub returns-in-Judged : goal.returns-in-Judged
returns-in-Judged c known spend words is =
    let judged = subst (AreWords known spend) c.in-Judged.is words in
    c.word_at.ensures ∙ word_told known spend c.in-Judged.words.now c.args.number c.args.pair.now judged.0 judged.1 is

pub returns-in-ByHash : goal.returns-in-ByHash
returns-in-ByHash c known spend words is =
    let told = subst (AreWords known spend) c.in-ByHash.is words in
    ap Some (c.judged.ensures spend told.0) ∙ sym (told.1 c.args.pair.now)
