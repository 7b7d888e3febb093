-- One step more, no step, and the end.
use Rattle.std.proofs.Common.{arith, ◌∙◌}
use Rattle.ms_derive.specs.Nodes.{node_at}
use Rattle.ms_derive.proofs.Children.{along_more, along_none, along_end}
use Rattle.ms_derive.proofs.steps.descendant.Goals as goal

pub returns-in_err-node-clause-node : goal.returns-in_err-node-clause-node
returns-in_err-node-clause-node c =
    let none =
    along_none c.args.numbers.now c.loop-number.number-index (node_at c.loop-number.node) (omega arith) c.in_err-node.ensures.node ∙ c.loop-number.invariant.path in
    cc

pub loop-number-preserved : goal.loop-number-preserved
loop-number-preserved c = record {
  path =
      along_more c.args.numbers.now c.loop-number.number-index (node_at c.loop-number.node) (node_at c.in_ok-node.node) (omega arith) c.in_ok-node.ensures.node
      ∙ c.loop-number.invariant.path;
  affine = c.in_ok-node.ensures.affine;
}

pub returns-clause-node : goal.returns-clause-node
returns-clause-node c =
    along_end c.args.numbers.now c.loop-number.number-index (node_at c.loop-number.node) (omega arith) ∙ c.loop-number.invariant.path
