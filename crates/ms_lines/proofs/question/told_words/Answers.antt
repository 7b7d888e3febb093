use Rattle.std.proofs.Common.{sym, true, false, ◌∙◌}
use Rattle.ms_lines.proofs.AskedLemmas.{words_seen}
use Rattle.ms_lines.proofs.question.told_words.Goals as goal

pub returns-then-not-are_texts : goal.returns-then-not-are_texts
returns-then-not-are_texts c =
    words_seen _ _ _ _ false c.in_ok-value.ensures c.in_ok-elements.ensures c.as_slice-elements.ensures.value (sym c.if-not-are_texts.true ∙ c.are_texts.ensures)

pub returns : goal.returns
returns c =
    words_seen _ _ _ _ true c.in_ok-value.ensures c.in_ok-elements.ensures c.as_slice-elements.ensures.value (sym c.if-not-are_texts.false ∙ c.are_texts.ensures)
