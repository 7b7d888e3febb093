use Rattle.std.proofs.Common.{◌∙◌}
use Rattle.ms_plan.proofs.Marked.{cut}
use Rattle.ms_plan.proofs.marks.push_marked.Goals as goal

pub returns : goal.returns
returns c =
    c.in_ok-push.ensures.ok ∙ rw (c.as_bytes.ensures.bytes) (cut c.args.pairs.now c.entry.inside.key c.entry.inside.length c.args.mark c.args.entry.now c.entry.view_is c.requires)
