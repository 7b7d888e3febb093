use Rattle.std.proofs.Common.{arith}
use Rattle.ms_tree.proofs.Parts.{nodes_at, in_range_at}
use Rattle.ms_plan.proofs.marks.+push_signers.Goals as goal

pub push_signers_of_all-push_signers-requires : goal.push_signers_of_all-push_signers-requires
push_signers_of_all-push_signers-requires t c = (
  omega (arith, c.decreases, nodes_at c.args.children.now c.loop-child.child-index c.child-item.result c.loop-child-test.true c.child-item.is),
  in_range_at c.args.children.now c.loop-child.child-index c.child-item.result c.loop-child-test.true c.child-item.is c.requires,
)
