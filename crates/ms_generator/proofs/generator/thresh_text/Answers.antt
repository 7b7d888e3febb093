use Rattle.std.proofs.Common.{◌<◌, ◌∙◌, arith}
use Rattle.ms_generator.proofs.GeneratorLemmas.{one_more_child}
use Rattle.ms_generator.proofs.generator.thresh_text.Goals as goal

pub loop-i-preserved : goal.loop-i-preserved
loop-i-preserved c =
    let below : c.loop-i.i < c.args.n = omega arith in
    one_more_child _ _ _ _ _ c.args.n c.loop-i.i below (rw (c.in_ok-push.ensures.ascii (omega arith)) at c.in_ok-push.ensures.bytes) c.in_ok-push_str.ensures.bytes
    (c.deref.ensures ∙ c.in_ok-child_text.ensures) c.loop-i.invariant
