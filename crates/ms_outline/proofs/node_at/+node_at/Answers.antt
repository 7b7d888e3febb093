use Rattle.std.proofs.Common.{arith}
use Rattle.ms_tree.specs.Shape.{shape}
use Rattle.ms_tree.proofs.Parts.{nodes-le-measure}
use Rattle.ms_outline.proofs.Below.{root_there}
use Rattle.ms_outline.proofs.node_at.+node_at.Goals as goal

pub overflow_add-number : goal.overflow_add-number
overflow_add-number t c = omega (arith, nodes-le-measure (shape c.args.tree.now), c.requires.range.measure, c.requires.node)

pub returns-then-number-nodes-clause-is : goal.returns-then-number-nodes-clause-is
returns-then-number-nodes-clause-is t c = root_there (shape c.args.tree.now) c.args.number (omega (arith, c.if-number-nodes.true, c.nodes.ensures))

pub node_at-requires : goal.node_at-requires
node_at-requires t c = (omega (arith, c.decreases, c.child_with-left.ensures.smaller), (c.child_with-left.ensures.range, c.child_with-left.ensures.there))
