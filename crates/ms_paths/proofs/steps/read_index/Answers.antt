-- A mark of hardened numbers, and none.
use Rattle.std.proofs.Common.{sym, ◌∙◌}
use Rattle.ms_paths.specs.Places.{tokens_at}
use Rattle.ms_paths.proofs.Places.{place_is}
use Rattle.ms_paths.proofs.Ways.{index_letter, index_mark, index_plain}
use Rattle.ms_paths.proofs.steps.read_index.Goals as goal

pub returns-then-is_mark : goal.returns-then-is_mark
returns-then-is_mark c = λ n.
    index_letter (tokens_at c.args.text.now c.args.at) (tokens_at c.args.text.now c.args.end) c.args.at c.requires.behind (place_is c.args.text.now c.args.at)
    (sym c.is_mark.ensures ∙ c.if-is_mark.true)

pub returns-then-is_mark-2 : goal.returns-then-is_mark-2
returns-then-is_mark-2 c = λ n.
    index_mark (tokens_at c.args.text.now c.args.at) (tokens_at c.args.text.now c.args.end) c.args.at c.requires.behind (place_is c.args.text.now c.args.at)
    (sym c.is_mark.ensures ∙ c.if-is_mark.false) (sym c.is_mark-2.ensures ∙ c.if-is_mark-2.true)

pub returns : goal.returns
returns c = (
  index_plain (tokens_at c.args.text.now c.args.at) (tokens_at c.args.text.now c.args.end) c.args.at c.requires.behind (place_is c.args.text.now c.args.at)
      (sym c.is_mark.ensures ∙ c.if-is_mark.false) (sym c.is_mark-2.ensures ∙ c.if-is_mark-2.false),
  c.requires.end,
  c.requires.after,
)
