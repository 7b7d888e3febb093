use Rattle.std.proofs.Common.{◌<◌, ◌≤◌, length, arith}
use Rattle.ms_report.proofs.ItemLines.{one_more_item, no_more_items}
use Rattle.ms_report.proofs.satisfactions.push_items.Goals as goal

pub loop-i-preserved : goal.loop-i-preserved
loop-i-preserved c =
    let below : c.loop-i.i < length c.args.stack.now = omega arith in
    one_more_item _ _ _ _ c.args.stack.now c.loop-i.i below c.item.ensures c.in_ok-push_item.ensures c.loop-i.invariant

pub returns : goal.returns
returns c =
    let past : length c.args.stack.now ≤ c.loop-i.i = omega arith in
    no_more_items _ _ c.args.stack.now c.loop-i.i past c.loop-i.invariant
