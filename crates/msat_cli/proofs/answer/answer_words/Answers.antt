use Rattle.msat_cli.proofs.StepLemmas.{have_utf8, words_ended, words_unread}
use Rattle.msat_cli.proofs.answer.answer_words.Goals as goal

pub returns-in-Some-clause-answer : goal.returns-in-Some-clause-answer
returns-in-Some-clause-answer g c = words_ended _ _ _ _ c.in-Some.ensures.form c.answer_command.ensures.answer

pub returns-in-Some-clause-utf8 : goal.returns-in-Some-clause-utf8
returns-in-Some-clause-utf8 g c = have_utf8 _ c.in-Some.command c.in-Some.ensures.form c.in-Some.ensures.utf8

pub returns-in-Some-clause-unread : goal.returns-in-Some-clause-unread
returns-in-Some-clause-unread g c = words_unread _ _ _ c.in-Some.ensures.form c.answer_command.ensures.unread
