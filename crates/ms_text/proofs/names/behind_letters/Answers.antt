use Rattle.std.proofs.Common.{sym, ◌∙◌, arith}
use Rattle.ms_text.proofs.PlaceLemmas.{word_more, word_place_more}
use Rattle.ms_text.proofs.HeadingLemmas.{letter_is_word, letters_more}
use Rattle.ms_text.proofs.names.behind_letters.Goals as goal

pub loop-end-preserved : goal.loop-end-preserved
loop-end-preserved c =
    let letter = sym c.is_letter_at.ensures ∙ c.loop-end-test.true in
    let here = letter_is_word c.args.text.now c.loop-end.end letter in
    record {
      after = omega arith;
      place = word_place_more c.args.text.now c.loop-end.end c.loop-end.invariant.place here;
      word = word_more c.args.text.now c.args.at c.loop-end.end c.loop-end.invariant.after c.loop-end.invariant.word here;
      letters = letters_more c.args.text.now c.args.at c.loop-end.end c.loop-end.invariant.after c.loop-end.invariant.letters letter;
    }
