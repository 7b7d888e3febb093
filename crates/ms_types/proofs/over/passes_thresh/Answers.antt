use Rattle.ms_types.proofs.Wrongs.{thresh_answer}
use Rattle.ms_types.proofs.over.passes_thresh.Goals as goal

pub returns : goal.returns
returns c =
    thresh_answer c.args.k c.args.children.now c.args.place c.args.wrong _ c.args.child c.is_within.result c.is_right.result c.wrong_at.result
    c.requires.place c.requires.wrong c.is_within.ensures c.wrong_at.ensures c.is_right.ensures
