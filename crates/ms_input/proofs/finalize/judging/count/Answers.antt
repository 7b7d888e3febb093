use Rattle.std.proofs.lemmas.Result.{IfOk-weaker}
use Rattle.ms_input.proofs.Judged.{made_count, made_words}
use Rattle.ms_input.proofs.finalize.judging.count.Goals as goal

pub returns-in_ok-unsigned-in-Verified-clause-assets : goal.returns-in_ok-unsigned-in-Verified-clause-assets
returns-in_ok-unsigned-in-Verified-clause-assets c =
    IfOk-weaker c.judged.result _ _
    (λ made is spend of. made_count spend c.args.fields.now c.args.locks c.args.judging c.in-Verified.hash c.in_ok-unsigned-in-Verified.unsigned c.pairs.result.now made.assets
    of c.in-Verified.is c.requires.types c.in_ok-unsigned-in-Verified.ensures c.pairs.ensures is)
    c.judged.ensures.assets

pub returns-in_ok-unsigned-in-Verified-clause-words : goal.returns-in_ok-unsigned-in-Verified-clause-words
returns-in_ok-unsigned-in-Verified-clause-words c =
    IfOk-weaker c.judged.result _ _
    (λ made is spend of. made_words spend c.args.fields.now c.args.locks c.args.judging c.in-Verified.hash c.pairs.result.now _
    of c.in-Verified.is c.requires.types c.pairs.ensures is)
    c.judged.ensures.words
