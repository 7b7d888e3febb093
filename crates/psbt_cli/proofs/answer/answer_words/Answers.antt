use Rattle.std.proofs.Common.{sym}
use Rattle.psbt_cli.proofs.Ending.{words_ended}
use Rattle.psbt_cli.proofs.answer.answer_words.Goals as goal

pub returns-in-Some-clause-answer : goal.returns-in-Some-clause-answer
returns-in-Some-clause-answer g c =
    words_ended c.args.words.now c.in-Some.request _ c.answer_request.result (sym c.in-Some.ensures) c.answer_request.ensures.answer
