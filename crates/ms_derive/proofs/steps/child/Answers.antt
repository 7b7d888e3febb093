-- A hardened number, and another one.
use Rattle.std.proofs.Common.{arith, sym, ◌∙◌}
use Rattle.ms_derive.specs.Nodes.{node_at}
use Rattle.ms_derive.proofs.Children.{none_hardened, plain_is}
use Rattle.ms_derive.proofs.steps.child.Goals as goal

pub returns-then-number-ge-HARDENED-clause-node : goal.returns-then-number-ge-HARDENED-clause-node
returns-then-number-ge-HARDENED-clause-node c = sym (none_hardened c.args.number (node_at c.args.parent.now) (omega arith))

pub returns-clause-node : goal.returns-clause-node
returns-clause-node c =
    c.child_by.ensures.node ∙ plain_is c.args.number (node_at c.args.parent.now) c.halves.result (omega arith) c.halves.ensures
