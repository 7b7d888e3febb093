use Rattle.std.proofs.Common.{rules}
use Rattle.ms_text.proofs.PlaceLemmas.{word_found}
use Rattle.ms_text.proofs.HeadingLemmas.{not_letters}
use Rattle.ms_text.proofs.names.heading_at.Goals as goal

pub returns-then-not-is_word_at-clause-first : goal.returns-then-not-is_word_at-clause-first
returns-then-not-is_word_at-clause-first c =
    let letters = c.behind_letters-behind.ensures in
    word_found c.args.text.now c.args.at c.behind_letters-behind.result letters.after letters.place letters.word (search rules)

pub head_of_name-requires : goal.head_of_name-requires
head_of_name-requires c =
    let letters = c.behind_letters-behind.ensures in
    let word = c.word_behind-word.ensures in
    not_letters c.args.text.now c.word_behind-word.result.now c.args.at c.behind_letters-behind.result letters.after word.is word.longer word.whole (search rules) letters.whole
