use Rattle.std.proofs.Common.{rules, refl, arith, sym, ◌*◌}
use Rattle.def_hash.specs.Ripemd.{padded_message}
use Rattle.ms_hash.proofs.Blocks.{no_words, words_more}
use Rattle.ms_hash.proofs.ripemd.block_words.Goals as goal

pub words-init : goal.words-init
words-init c = (refl, sym (no_words _))

pub words-preserved : goal.words-preserved
words-preserved c = (
  search rules,
  words_more (padded_message c.args.message.now) c.words.words (c.args.block * 64) c.words.k _ (omega arith) (omega arith) c.words.invariant.1 c.word_at.ensures,
)
