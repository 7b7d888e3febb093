use Rattle.std.proofs.lemmas.Result.{err_from_is_err_and}
use Rattle.ms_witness.specs.Reading.{first_items}
use Rattle.ms_witness.proofs.Loop.{goes_on, ends, is_done}
use Rattle.ms_witness.proofs.reading.first_stack.Goals as goal

pub returns-in_err-item : goal.returns-in_err-item
returns-in_err-item c =
    let refused = err_from_is_err_and c.from_residual.result c.from_residual.ensures.1 in
    rw (refused.1, refused.2) (ends c.in_err-item.field-0.0 c.loop.stack c.args.count c.loop.counter c.loop.rest.now
    (first_items c.args.count c.args.bytes.now) c.loop-test.true c.in_err-item.ensures c.loop.invariant)

pub loop-preserved : goal.loop-preserved
loop-preserved c = rw c.in_ok-push.ensures.ok (goes_on c.loop.stack c.args.count c.loop.counter c.loop.rest.now c.in_ok-item.item.now c.in_ok-item.after.now
    (first_items c.args.count c.args.bytes.now) c.loop-test.true c.in_ok-item.ensures c.loop.invariant)

pub returns : goal.returns
returns c = is_done c.loop.stack c.args.count c.loop.counter c.loop.rest.now (first_items c.args.count c.args.bytes.now) c.loop-test.false c.loop.invariant
