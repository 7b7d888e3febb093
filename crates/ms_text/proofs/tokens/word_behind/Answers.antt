use Rattle.std.proofs.Common.{sym, ◌∙◌, arith}
use Rattle.ms_text.proofs.PlaceLemmas.{word_found, word_more, word_place_more}
use Rattle.ms_text.proofs.tokens.word_behind.Goals as goal

pub loop-end-preserved : goal.loop-end-preserved
loop-end-preserved c =
    let here = sym c.is_word_at.ensures ∙ c.loop-end-test.true in
    record {
      after = omega arith;
      longer = omega arith;
      place = word_place_more c.args.text.now c.loop-end.end c.loop-end.invariant.place here;
      word = word_more c.args.text.now c.args.at c.loop-end.end c.loop-end.invariant.after c.loop-end.invariant.word here;
    }

pub returns-clause-first : goal.returns-clause-first
returns-clause-first c =
    word_found c.args.text.now c.args.at c.loop-end.end c.loop-end.invariant.after c.loop-end.invariant.place c.loop-end.invariant.word
    (sym c.is_word_at.ensures ∙ c.loop-end-test.false)
