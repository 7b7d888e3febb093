use Rattle.std.proofs.Common.{arith}
use Rattle.ms_tree.proofs.Parts.{nodes_at, in_range_at}
use Rattle.ms_types.proofs.Seen.{nodes_left}
use Rattle.ms_mixing.proofs.mixing.+mix.Goals as goal

pub together_from-kinds_from-requires : goal.together_from-kinds_from-requires
together_from-kinds_from-requires t c =
    let few = nodes_at c.args.children.now c.loop-child.child-index c.child-item.result c.loop-child-test.true c.child-item.is in
    let left = nodes_left c.args.children.now c.loop-child.child-index c.child-item.result c.loop-child-test.true c.child-item.is in (
      omega (arith, c.decreases, few),
      (
        in_range_at c.args.children.now c.loop-child.child-index c.child-item.result c.loop-child-test.true c.child-item.is c.requires.range,
        omega (arith, left, c.loop-child.invariant.next, c.requires.room),
      ),
    )
