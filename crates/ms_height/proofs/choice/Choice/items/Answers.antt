use Rattle.std.proofs.Common.{arith}
use Rattle.ms_height.specs.Scaffolding.Chosen.{more_sats, more_dsats}
use Rattle.ms_height.proofs.choice.Choice.items.Goals as goal

pub overflow_add-result : goal.overflow_add-result
overflow_add-result c = let t = c.requires.told in omega (arith, t.6.light, t.7, c.sum.ensures.low)

pub overflow_add-result-2 : goal.overflow_add-result-2
overflow_add-result-2 c = let t = c.requires.told in omega (arith, t.6.light, t.7, c.sum.ensures.low, c.sum-2.ensures.low)

pub returns-clause-items : goal.returns-clause-items
returns-clause-items c = λ ps ms t u left cs is.
    omega (arith, is.base, c.sum.ensures.sum ps t (more_sats cs) is.sats, c.sum-2.ensures.sum ms u (more_dsats cs) is.dsats)

pub returns-clause-low : goal.returns-clause-low
returns-clause-low c = let t = c.requires.told in omega (arith, t.6.light, t.7, c.sum.ensures.low, c.sum-2.ensures.low)
