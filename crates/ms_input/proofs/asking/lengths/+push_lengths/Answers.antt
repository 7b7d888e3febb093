use Rattle.std.proofs.Common.{arith}
use Rattle.ms_tree.proofs.Parts.{nodes_at, in_range_at}
use Rattle.ms_input.proofs.asking.lengths.+push_lengths.Goals as goal

pub push_lengths_of_all-push_lengths-requires : goal.push_lengths_of_all-push_lengths-requires
push_lengths_of_all-push_lengths-requires t c = (
  omega (arith, c.decreases, nodes_at c.args.children.now c.loop-child.child-index c.child-item.result c.loop-child-test.true c.child-item.is),
  in_range_at c.args.children.now c.loop-child.child-index c.child-item.result c.loop-child-test.true c.child-item.is c.requires,
)
