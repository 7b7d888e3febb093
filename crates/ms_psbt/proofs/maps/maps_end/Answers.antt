use Rattle.std.proofs.Common.{arith}
use Rattle.std.proofs.lemmas.Grind.{common_steps}
use Rattle.std.proofs.lemmas.Result.{err_from_is_err_and}
use Rattle.ms_psbt.specs.Scaffolding.Kinds.{rules_of}
use Rattle.ms_psbt.proofs.Walking.{maps_next, starts_next, maps_stop, maps_done, starts_done}
use Rattle.ms_psbt.proofs.maps.maps_end.Goals as goal

pub returns-in_err-at-clause-reading : goal.returns-in_err-at-clause-reading
returns-in_err-at-clause-reading c =
    let refused = err_from_is_err_and c.from_residual-in_err-at.result c.from_residual-in_err-at.ensures.1 in
    rw (refused.1, refused.2)
    (maps_stop (rules_of c.args.kind) c.args.psbt.now c.args.count c.loop.counter c.loop.at c.in_err-at.field-0.0 _ c.loop-test.true c.in_err-at.ensures.reading c.loop.invariant.1)

pub loop-preserved : goal.loop-preserved
loop-preserved c =
    let maps = maps_next (rules_of c.args.kind) c.args.psbt.now c.args.count c.loop.counter c.loop.at in
    let starts = starts_next (rules_of c.args.kind) c.args.psbt.now c.args.count c.loop.counter c.loop.at c.in_ok-at.at in
    grind (arith, common_steps, maps, starts)

pub returns-clause-reading : goal.returns-clause-reading
returns-clause-reading c = grind (arith, maps_done (rules_of c.args.kind) c.args.psbt.now c.args.count c.loop.counter c.loop.at)

pub returns-clause-starts : goal.returns-clause-starts
returns-clause-starts c = grind (arith, common_steps, starts_done (rules_of c.args.kind) c.args.psbt.now c.args.count c.loop.counter c.loop.at)
