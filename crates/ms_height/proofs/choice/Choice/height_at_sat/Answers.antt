use Rattle.std.proofs.Common.{◌+◌, ◌<◌, ◌∙◌, ap, sym, arith}
use Rattle.ms_height.specs.Scaffolding.Choice.{items_of}
use Rattle.ms_height.proofs.Choices.{reach_at}
use Rattle.ms_height.proofs.choice.Choice.height_at_sat.Goals as goal

pub returns-clause-reach : goal.returns-clause-reach
returns-clause-reach c = λ ps ms t u left cs is.
    let some : 0 < t = omega (arith, c.if-self-eq0.false, is.sats.same) in
    ap (λ n. c.args.sat.now.height + n) (c.items_beside_sat.ensures.items ps ms t u left cs is) ∙ sym (reach_at (λ n. c.args.sat.now.height + items_of cs n u) t some)
