-- An index, a `<..>`, or a step that is one too many.
use Rattle.std.proofs.Common.{sym, ◌∙◌}
use Rattle.ms_paths.specs.Places.{tokens_at}
use Rattle.ms_paths.proofs.Places.{place_is}
use Rattle.ms_paths.proofs.Ways.{over_index, over_branch, over_step}
use Rattle.ms_paths.proofs.steps.way_over.Goals as goal

pub returns-then-is_mark : goal.returns-then-is_mark
returns-then-is_mark c = λ n.
    over_index (tokens_at c.args.text.now c.args.at) c.args.at (place_is c.args.text.now c.args.at) (sym c.is_mark.ensures ∙ c.if-is_mark.true)

pub returns-then-is_mark-2 : goal.returns-then-is_mark-2
returns-then-is_mark-2 c = λ n.
    over_branch (tokens_at c.args.text.now c.args.at) c.args.at (place_is c.args.text.now c.args.at) (sym c.is_mark.ensures ∙ c.if-is_mark.false)
    (sym c.is_mark-2.ensures ∙ c.if-is_mark-2.true)

pub returns : goal.returns
returns c = λ n.
    over_step (tokens_at c.args.text.now c.args.at) c.args.at (place_is c.args.text.now c.args.at) (sym c.is_mark.ensures ∙ c.if-is_mark.false)
    (sym c.is_mark-2.ensures ∙ c.if-is_mark-2.false) ∙ c.step_over.ensures n
